-- One step of each scan of a text, at the byte c that stands at place i. Assumes nothing.
use mathlib.Core.List.{List, [], ◌∷◌}
use Rattle.std.proofs.Common.{Bool, true, false, cond, ◌⊎◌, inl, inr, Option, Some, None}
use mathlib.Core.Path.{◌≡◌, refl, sym, ap, ◌∙◌}
use Prim.Native.Nat.{ℕ, suc, ◌+◌, ◌*◌, ◌-◌, ◌^◌, ◌<◌, ◌≤◌}
use native.Mathlib.Numerals.{add-one}
use native.Mathlib.Omega.{arith}
use Rattle.std.proofs.lemmas.Bool.{cases_lt}
use lib.ListN.{length, get_or, take, drop, drop_of_length-le, length-drop}
use lib.Seq.{drop-cons}
use borrow.Author.Tests.{ltb-true, ltb-false, le-leb, lt-leb, lt-ltb, le-ltb}
use Rattle.std.specs.List.{position, position_or_len}
use Rattle.std.specs.Char.{IsNotAsciiDigit}
use Rattle.words.proofs.PartLaws.{part-tail}
use Rattle.words.specs.Words.{number, end, fault, no_blank, skip_from, digits_from, next_word}

module _ (text : List ℕ) (i : ℕ) where
  pub digits-end : (v : ℕ) → i ≡ length text → digits_from (drop i text) i v ≡ number v (length text)
  unfolding digits_from
  digits-end v h = ap (λ l. digits_from l i v) (drop_of_length-le text {i = i} (omega arith)) ∙ ap (λ k. number v k) h

  module _ {c : ℕ} (e : c ≡ get_or text i 0) (h : i < length text) where
    front : drop i text ≡ c ∷ drop (suc i) text
    front = drop-cons text i 0 h ∙ ap (λ x. x ∷ drop (suc i) text) (sym e)

    module _ (v : ℕ) where
      pub digits-blank : c ≤ 32 → digits_from (drop i text) i v ≡ number v i
      unfolding digits_from
      digits-blank b = rw (front, le-leb c 32 b) refl

      module _ (b : 32 < c) where
        digits-below : c < 48 → digits_from (drop i text) i v ≡ fault i
        unfolding digits_from
        digits-below l = rw (front, lt-leb c 32 b, lt-ltb c 48 l) refl

        module _ (l : 48 ≤ c) where
          digits_above : 57 < c → digits_from (drop i text) i v ≡ fault i
          unfolding digits_from
          digits_above m = rw (front, lt-leb c 32 b, le-ltb c 48 l, lt-ltb 57 c m) refl

          module _ (m : c ≤ 57) where
            pub digits-past : 2 ^ 64 ≤ v * 10 + (c - 48) → digits_from (drop i text) i v ≡ fault i
            unfolding digits_from
            digits-past p = rw (front, lt-leb c 32 b, le-ltb c 48 l, le-ltb 57 c m, le-ltb (v * 10 + (c - 48)) (2 ^ 64) p) refl

            pub digits_more : v * 10 + (c - 48) < 2 ^ 64
                → digits_from (drop i text) i v ≡ digits_from (drop (i + 1) text) (i + 1) (v * 10 + (c - 48))
            unfolding digits_from
            digits_more p = rw (add-one, front, lt-leb c 32 b, le-ltb c 48 l, le-ltb 57 c m, lt-ltb (v * 10 + (c - 48)) (2 ^ 64) p) refl

        pub digits-other : IsNotAsciiDigit c → digits_from (drop i text) i v ≡ fault i
        digits-other d = go (cases_lt c 48)
          where
            go : (c < 48) ⊎ (48 ≤ c) → digits_from (drop i text) i v ≡ fault i
            go (inl l) = digits-below l
            go (inr l) = digits_above l (omega (arith, d))

-- ---- the blanks are passed
skip-is : (cs : List ℕ) (k : ℕ) → skip_from cs k ≡ k + position_or_len no_blank cs
unfolding skip_from
skip-is [] k = omega arith
skip-is (c ∷ cs) k = go (cases_lt 32 c) (skip-is cs (suc k))
  where
    go : (32 < c) ⊎ (c ≤ 32) → skip_from cs (suc k) ≡ suc k + position_or_len no_blank cs → skip_from (c ∷ cs) k ≡ k + position_or_len no_blank (c ∷ cs)
    go (inl h) e = rw (lt-leb c 32 h, lt-ltb 32 c h) (omega arith)
    go (inr h) e = rw (le-leb c 32 h, le-ltb 32 c h, e) (omega arith)

some-is : (c : Bool) (m n : ℕ) → ◌≡◌ {A = Option ℕ} (cond c (Some m) None) (Some n) → (c ≡ true) × (n ≡ m)
some-is true m n e = (refl, cc)
some-is false m n e = absurd cc

none-is : (c : Bool) (m : ℕ) → ◌≡◌ {A = Option ℕ} (cond c (Some m) None) None → c ≡ false
none-is true m e = absurd cc
none-is false m e = refl

module _ (text : List ℕ) (k : ℕ) where
  -- the bytes from k on, as the code takes them
  abbrev tail : List ℕ
  tail = take (length text - k) (drop k text)

  tail-is : tail ≡ drop k text
  tail-is = part-tail k text

  module _ (b : ℕ) (t : position no_blank tail ≡ Some b) where
    e : position no_blank (drop k text) ≡ Some b
    e = ap (position no_blank) (sym tail-is) ∙ t

    found : (b ≡ position_or_len no_blank (drop k text)) × (b < length (drop k text))
    found =
        let f = some-is _ _ b e in
        (f.1, rw (f.1) (ltb-true _ _ f.0))

    pub next-digits : next_word text k ≡ digits_from (drop (k + b) text) (k + b) 0
    unfolding next_word
    next-digits =
        let f = found in
        let s : skip_from (drop k text) k ≡ k + b = skip-is (drop k text) k ∙ ap (λ n. k + n) (sym f.0) in
        rw (s, lt-ltb (k + b) (length text) (omega (arith, f.1, length-drop k text))) refl

  pub next-past : length text < k → next_word text k ≡ end
  unfolding next_word skip_from
  next-past h =
      let d : drop k text ≡ [] = drop_of_length-le text {i = k} (omega arith) in
      rw (d, le-ltb k (length text) (omega arith)) refl

  pub next-end : k ≤ length text → position no_blank tail ≡ None → next_word text k ≡ end
  unfolding next_word
  next-end h t =
      let n = none-is _ _ (ap (position no_blank) (sym tail-is) ∙ t) in
      rw (skip-is (drop k text) k, le-ltb (k + position_or_len no_blank (drop k text)) (length text) (omega (arith, ltb-false _ _ n, length-drop k text))) refl
