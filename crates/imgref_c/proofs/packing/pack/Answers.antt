-- The rows are joined, and at the least stride they show the image.
use Rattle.std.proofs.Common.{rules, ◌≡◌, ◌*◌, ◌++◌, List, ap, ◌∙◌, drop, arith}
use Rattle.image_model.specs.Layout.{Layout, layout, Fits}
use Rattle.image_model.specs.Grid.{grid_of}
use Rattle.image_model.specs.Rows.{joined_rows}
use Rattle.image_model.specs.Compaction.{least_stride}
use Rattle.image_shape.specs.Shape.{shaped}
use Rattle.imgref_c.proofs.Packed.{joined_shows}
use Rattle.imgref_c.proofs.packing.pack.Goals as goal

pub returns-clause-packs : goal.returns-clause-packs
returns-clause-packs g c =
    let a = c.args in
    let made = c.shape.ensures in
    let l : Layout g.row.T.Denot = layout a.cells.now a.claimed.width a.claimed.height a.claimed.stride in
    let same : shaped a.cells.now c.shape.result ≡ l = λ i. layout a.cells.now (made.width i) (made.height i) (made.stride i) in
    let rest : List g.row.T.Denot = drop (a.claimed.width * a.claimed.height) a.cells.now in
    let joins : c.join_rows.new.cells ≡ joined_rows l ++ rest = c.join_rows.ensures.cells ∙ ap (λ (v : Layout g.row.T.Denot). joined_rows v ++ drop (v.width * v.height) v.cells) same in
    let fits : Fits l = search (rules) in
    record {
      joins = λ _. joins;
      shows = λ _. ap (λ (cells : List g.row.T.Denot). grid_of (layout cells a.claimed.width a.claimed.height (least_stride a.claimed.width))) joins ∙ joined_shows l rest fits;
      unchanged = λ refused. absurd (omega (arith, refused));
    }
