-- `pager::collect::collect_parts` meets its contract. Assumes nothing.
use Rattle.std.proofs.Common.{sym, ap, ◌∙◌, []}
use Rattle.pager.specs.Memory.{pad}
use Rattle.pager.proofs.Collecting.Clear.{clear-zeros}
use Rattle.pager.proofs.Collecting.Parts.{parts-numbered, parts-kept}
use Rattle.pager.proofs.collect.collect_parts.Goals as goal

pub pack_edges-requires : goal.pack_edges-requires
pack_edges-requires c =
    let p = c.requires in
    let f = c.reach in
    let n = c.renumber in
    let E = p.1.edge-part in (
      p.0,
      record { shaped = E.shaped; edges-is = E.edges-is; marks-long = n.auto.marks ∙ f.auto.marks ∙ E.marks-long },
      parts-numbered p.0 E.shaped f.new.marks n.new.marks (f.ensures p.0 E) n.ensures,
    )

pub returns : goal.returns
returns c =
    let a = c.args in
    let f = c.reach in
    let n = c.renumber in
    λ ss P.
    let I = P.item-part in
    let E = P.edge-part in
    let r = n.auto.marks ∙ f.auto.marks in
    let k = parts-kept ss E.shaped f.new.marks n.new.marks (f.ensures ss E) n.ensures in
    let q =
    c.pack_items-count.ensures ss
    (record { sets = I.sets; items-is = I.items-is; spans-is = I.spans-is; marks-long = r ∙ I.marks-long }) in
    let h =
    c.pack_edges.ensures ss (record { shaped = E.shaped; edges-is = E.edges-is; marks-long = r ∙ E.marks-long })
    (parts-numbered ss E.shaped f.new.marks n.new.marks (f.ensures ss E) n.ensures) in
    record {
      items_left = rw k at q;
      edges_are = rw k at h;
      marks-are = c.fill.ensures.after (λ y e. e) ∙ sym (clear-zeros _ []) ∙ ap (λ n. pad n []) r;
    }
