-- `seed` meets its contract: the laws of proofs/Work/Seeding. Assumes nothing.
use Rattle.std.proofs.Common.{[], ◌≡◌, sym, ap, ◌∙◌, subst, ℕ, ◌*◌, ◌/◌, ◌%◌, ◌<◌, arith, length, get_or}
use Rattle.block.specs.Limits.{ITEM, DOTS}
use Rattle.block.specs.First.{firsts_of}
use Rattle.itemset.specs.Work.{TookAt, HandedOn}
use Rattle.itemset.proofs.Chunks.{chunk-item, chunk-context}
use Rattle.itemset.proofs.Work.Seeding.{seed-item, seed-low, seed-zero, seed-more, seed-all}
use Rattle.itemset.proofs.closure.Closure.seed.Goals as goal
use Rattle.itemset.proofs.closure.Closure.seed.Goals.{In-loop-row, then-item-eq0, else-item-eq0}

low : (c : In-loop-row) → c.loop-row.row-index < length c.args.kernel.now / ITEM
low c = omega (arith, c.loop-row-test.true, c.as_chunks.ensures.front_len)

item : (c : In-loop-row) → get_or (get_or c.as_chunks.result.0.now c.loop-row.row-index []) 0 0 ≡ get_or c.args.kernel.now (ITEM * c.loop-row.row-index) 0
item c = chunk-item c.args.kernel.now c.as_chunks.result.0.now c.as_chunks.ensures.front c.loop-row.row-index (low c)

pub take-requires : goal.take-requires
take-requires c =
    let a = c.args in
    let S = c.requires in
    let p = (goal.at.take-requires c).In-loop-row in
    rw (item p) (seed-low a.firsts.now.grammar.words.now a.kernel.now S.0 a.self.now S.1 c.loop-row.row-index (low p))

pub hand_on-requires : goal.hand_on-requires
hand_on-requires c =
    let a = c.args in
    let S = c.requires in
    let p = (goal.at.hand_on-requires c).In-loop-row in
    rw (item p) (seed-item a.firsts.now.grammar.words.now a.kernel.now S.0 a.self.now S.1 c.loop-row.row-index (low p))

pub loop-row-preserved : goal.loop-row-preserved
loop-row-preserved c =
    λ K S.
    let a = c.args in
    let b = a.firsts.now.grammar.words.now in
    let l = c.loop-row in
    let p = (goal.at.loop-row-preserved c).In-loop-row in
    let e = item p in
    let own = c.load-own.ensures ∙ chunk-context a.kernel.now c.as_chunks.result.0.now c.as_chunks.ensures.front l.row-index (low p) in
    elim c.if-item-eq0.branch [
      | then-item-eq0 w ↦ rw w.self-is
          (seed-zero b a.kernel.now K a.self.now S l.row-index (low p) _ own l.self (l.invariant K S)
          (ap (λ (i : ℕ). i % DOTS) (sym e) ∙ w.if-item-eq0.true) w.take.new.self
          (subst (λ (i : ℕ). TookAt (i / DOTS) c.load-own.result.words l.self w.take.new.self) e w.take.ensures))
      | else-item-eq0 w ↦ rw w.self-is
          (seed-more b a.kernel.now K a.self.now S l.row-index (low p) _ own l.self (l.invariant K S)
          (λ z. w.if-item-eq0.false (ap (λ (i : ℕ). i % DOTS) e ∙ z)) w.hand_on.new.self
          (subst (λ (i : ℕ). HandedOn b (firsts_of b) i c.load-own.result.words l.self w.hand_on.new.self) e w.hand_on.ensures))
    ]

pub returns : goal.returns
returns c =
    λ K S.
    let a = c.args in
    let l = c.loop-row in
    seed-all a.firsts.now.grammar.words.now a.kernel.now K a.self.now S l.self l.row-index
    (omega (arith, c.loop-row-test.false, c.as_chunks.ensures.front_len, c.loop-row.auto.row-index-end)) (l.invariant K S)
