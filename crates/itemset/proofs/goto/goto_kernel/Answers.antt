-- `goto_kernel` meets its contract: of the goto rows, those of row k on are still to be written. Assumes nothing.
use Rattle.std.proofs.Common.{List, [], ◌∷◌, ◌≡◌, refl, sym, ap, ap₂, ◌∙◌, ℕ, ◌+◌, ◌*◌, ◌/◌, ◌<◌, ◌≤◌, arith, length, get_or}
use lib.Seq.{paste}
use Rattle.block.specs.Limits.{ITEM}
use Rattle.block.proofs.Good.{placed}
use Rattle.itemset.specs.Close.{rest_of}
use Rattle.itemset.specs.Sights.{is_next}
use Rattle.itemset.proofs.Chunks.{chunk-item, chunk-context}
use Rattle.itemset.proofs.LentRows.{in-prod}
use Rattle.itemset.proofs.Writing.{writing_start, writing-skip, writing-end, writing-fits, writing-put}
use Rattle.itemset.proofs.Going.{gone-sets, gone-few, gone-end, gone-put, gone-skip}
use Rattle.itemset.proofs.goto.goto_kernel.Goals as goal
use Rattle.itemset.proofs.goto.goto_kernel.Goals.{In-loop-row, then-is_next, else-is_next}

low : (c : In-loop-row) → c.loop-row.row-index < length c.args.closed.now / ITEM
low c = omega (arith, c.loop-row-test.true, c.as_chunks.ensures.front_len)

item : (c : In-loop-row) → get_or (get_or c.as_chunks.result.0.now c.loop-row.row-index []) 0 0 ≡ get_or c.args.closed.now (ITEM * c.loop-row.row-index) 0
item c = chunk-item c.args.closed.now c.as_chunks.result.0.now c.as_chunks.ensures.front c.loop-row.row-index (low c)

pub loop-row-init : goal.loop-row-init
loop-row-init c = (refl, λ C G. writing_start _ _ c.args.out.now refl)

pub is_next-requires : goal.is_next-requires
is_next-requires c =
    let p = goal.at.is_next-requires c in
    rw (item p.In-loop-row) (in-prod c.requires.1.closed c.loop-row.row-index (low p.In-loop-row)).below

pub overflow_add-item : goal.overflow_add-item
overflow_add-item c =
    let p = goal.at.overflow_add-item c in
    let k = in-prod c.requires.1.closed c.loop-row.row-index (low p.In-loop-row) in
    omega (arith, item p.In-loop-row, k.below, (placed k.good).prods-most)

pub put_row-requires : goal.put_row-requires
put_row-requires c =
    let a = c.args in
    let l = c.loop-row in
    let p = (goal.at.put_row-requires c).In-loop-row in
    let fits : ITEM * (l.rows + 1) ≤ length a.out.now =
    writing-fits (l.invariant.1 c.requires.0 c.requires.1) _ _ _
    (gone-put c.requires.1 a.x l.row-index (low p)
    (ap (λ (i : ℕ). is_next (rest_of a.grammar.words.now i) a.x) (sym (item p)) ∙ sym c.is_next.ensures ∙ c.if-is_next.true))
    (length a.out.now) (gone-few c.requires.1 a.x) in
    omega (arith, fits, l.invariant.0)

pub loop-row-preserved : goal.loop-row-preserved
loop-row-preserved c =
    let a = c.args in
    let l = c.loop-row in
    let p = (goal.at.loop-row-preserved c).In-loop-row in
    let t = low p in
    let n = ap (λ (i : ℕ). is_next (rest_of a.grammar.words.now i) a.x) (sym (item p)) ∙ sym c.is_next.ensures in (
      elim c.if-is_next.branch [ then-is_next w ↦ ap length w.out-is ∙ w.put_row.auto.out ∙ l.invariant.0 | else-is_next w ↦ ap length w.out-is ∙ l.invariant.0 ],
      λ C G. elim c.if-is_next.branch [
        | then-is_next w ↦ writing-put (l.invariant.1 C G) _ _ _ (gone-put G a.x l.row-index t (n ∙ w.if-is_next.true)) _ _ (gone-sets G a.x) w.rows-is
            (w.out-is ∙ w.put_row.ensures ∙ ap₂ (λ (i : ℕ) (u : List ℕ). paste l.out (ITEM * l.rows) ((i + 1) ∷ u) ITEM) (item p)
            (w.load.ensures ∙ chunk-context a.closed.now c.as_chunks.result.0.now c.as_chunks.ensures.front l.row-index t))
        | else-is_next w ↦ writing-skip (l.invariant.1 C G) _ _ _ (gone-skip G a.x l.row-index t (n ∙ w.if-is_next.false)) w.rows-is w.out-is
      ],
    )

pub returns : goal.returns
returns c =
    λ C G.
    let a = c.args in
    let l = c.loop-row in
    writing-end (l.invariant.1 C G) (gone-end G a.x l.row-index (omega (arith, c.loop-row-test.false, c.as_chunks.ensures.front_len)))
