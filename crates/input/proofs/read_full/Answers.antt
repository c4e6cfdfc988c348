-- `read_full` counts what it has read. Assumes nothing.
use Rattle.std.proofs.Common.{ℕ, ◌+◌, ◌-◌, ◌≤◌, ◌≡◌, ◌∙◌, sym, ap, subst, List, ◌++◌, length, take, arith, rules}
use Rattle.std.proofs.KnownBytes.{Consumes-trans}
use Rattle.std.proofs.Math.Seq.{take-append-add, length-take-le}
use Rattle.std.proofs.lemmas.List.{take-append-le}
use Rattle.std.specs.Io.KnownBytes.{Consumes}
use borrow.Rule.Slice.PartMut.{put_mid, post_of}
use Rattle.input.proofs.read_full.Goals as goal

-- so many bytes stood in the room, and so many more were read behind them
read_more : (n m k : ℕ) (room bytes : List ℕ) → n ≤ length room → m ≤ length bytes → take (n + m) (put_mid n k room bytes) ≡ take n room ++ take m bytes
read_more n m k room bytes h l =
    let e : length (take n room) ≡ n = length-take-le n room h in
    subst (λ j. take (j + m) (take n room ++ (bytes ++ post_of n k room)) ≡ take n room ++ take m bytes) e
    (take-append-add (take n room) (bytes ++ post_of n k room) m ∙ ap (λ x. take n room ++ x) (take-append-le m bytes (post_of n k room) l))

pub loop-n-preserved : goal.loop-n-preserved
loop-n-preserved g c =
    let l = c.loop-n in
    let m = c.in_ok-more in
    let e = read_more l.n m.more (length l.room - l.n) l.room c.read.new.buf (omega arith) (omega (arith, m.ensures.bound)) in
    (search rules, subst (Consumes _ _) (sym e) (Consumes-trans _ _ _ _ _ l.invariant.1 m.ensures.bytes.0))
