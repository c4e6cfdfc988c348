-- What a line that was read is, and one turn more of a count. Assumes nothing.
use mathlib.Core.Bool.{Bool, true, false}
use mathlib.Core.List.{List}
use mathlib.Core.Logic.{◌↔◌}
use Rattle.std.specs.Prelude.{Option, Some, None, Result, Ok, Err}
use mathlib.Core.Path.{◌≡◌, refl, sym, ap, subst, ◌∙◌}
use Prim.Native.Nat.{ℕ, suc, ◌+◌, ◌-◌, ◌<◌}
use native.Mathlib.Omega.{arith}
use native.Mathlib.Numerals.{add-one}
use lib.ListN.{length, replicate, take, length-replicate}
use Rattle.words.specs.Lines.{line_from, line_of}
use Rattle.words.specs.declared.scan.Fault as words
use Rattle.words.proofs.Answers.{differ}
use Rattle.replay.specs.Lists.{LineCase}
use Rattle.replay.proofs.AnyRoom.{Alike, line-alike}
use Rattle.replay.specs.Tally.{LINE, line_at, case_of, CaseIs, Holds, Differs, End, Fault, Counted, spent, ended, faulted, held, differed}

module _ (list : ℕ) (text : List ℕ) (k : ℕ) (r : Result (Option (ℕ × ℕ)) words.Fault) (out room : List ℕ) (size : length room ≡ LINE) (e : (line_of r, out) ≡ line_from text k room) where
  read-alike : Alike (line_from text k room) (line_at text k)
  unfolding line_at
  read-alike = line-alike text k room (replicate LINE 0) (size ∙ sym (length-replicate {0} {A = ℕ} LINE 0))

  told : line_of r ≡ (line_at text k).0
  told = ap (λ x. x.0) e ∙ read-alike.0

  read-words : (n p : ℕ) → r ≡ Ok (Some (n, p)) → take n out ≡ take n (line_at text k).1
  read-words n p q = ap (λ x. take n x.1) e ∙ read-alike.1 n p (sym (ap (λ x. x.0) e) ∙ ap line_of q)

  pub case-read : (n p : ℕ) (h : Bool) → r ≡ Ok (Some (n, p)) → (h ≡ true) ↔ LineCase list (take n out) → CaseIs list text k (case_of (Ok (Some (h, p))))
  case-read n p true q i = (n, sym told ∙ ap line_of q, subst (LineCase list) (read-words n p q) (i.0 refl))
  case-read n p false q i = (n, sym told ∙ ap line_of q, λ l. differ (i.1 (subst (LineCase list) (sym (read-words n p q)) l)))

  pub case-end : r ≡ Ok None → CaseIs list text k End
  case-end q = sym told ∙ ap line_of q

  pub case-fault : (f : words.Fault) → r ≡ Err f → CaseIs list text k (Fault f.place)
  case-fault f q = sym told ∙ ap line_of q

-- ---- no turn more, or one more, counted as the code counts
pub turn-spent : (list : ℕ) (text : List ℕ) (t k c d : ℕ) → t ≡ 0 → Counted list text t k c d k c d
turn-spent list text t k c d z = rw z (spent k c d)

module _ (list : ℕ) (text : List ℕ) (t k c d : ℕ) (h : 0 < t) where
  turn : t ≡ suc (t - 1)
  turn = omega arith

  pub turn-ended : CaseIs list text k End → Counted list text t k c d k c d
  turn-ended e = rw turn (ended (t - 1) k c d e)

  pub turn-faulted : (p : ℕ) → CaseIs list text k (Fault p) → Counted list text t k c d k c d
  turn-faulted p e = rw turn (faulted (t - 1) k c d p e)

  module _ (p q a w : ℕ) where
    pub turn-held : CaseIs list text k (Holds p) → Counted list text (t - 1) p (c + 1) d q a w → Counted list text t k c d q a w
    turn-held e n = rw turn (held (t - 1) k c d p q a w e (subst (λ x. Counted list text (t - 1) p x d q a w) (add-one c) n))

    pub turn-differed : CaseIs list text k (Differs p) → Counted list text (t - 1) p (c + 1) (d + 1) q a w → Counted list text t k c d q a w
    turn-differed e n =
        rw turn (differed (t - 1) k c d p q a w e
        (subst (λ x. Counted list text (t - 1) p x (suc d) q a w) (add-one c) (subst (λ x. Counted list text (t - 1) p (c + 1) x q a w) (add-one d) n)))

    -- a line that was read, whether it holds or not
    pub turn-read : (h : Bool) (t' d' : ℕ) → t' ≡ t - 1 → (h ≡ true → d' ≡ d) × (h ≡ false → d' ≡ d + 1) → CaseIs list text k (case_of (Ok (Some (h, p))))
        → Counted list text t' p (c + 1) d' q a w → Counted list text t k c d q a w
    turn-read true t' d' z f e n = turn-held e (subst (λ x. Counted list text x p (c + 1) d q a w) z (subst (λ x. Counted list text t' p (c + 1) x q a w) (f.0 refl) n))
    turn-read false t' d' z f e n =
        turn-differed e (subst (λ x. Counted list text x p (c + 1) (d + 1) q a w) z (subst (λ x. Counted list text t' p (c + 1) x q a w) (f.1 refl) n))
