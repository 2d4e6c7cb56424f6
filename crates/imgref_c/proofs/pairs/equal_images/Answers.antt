-- Two images that fit are alike exactly where their grids agree.
use Rattle.std.proofs.Common.{rules, ◌≡◌, sym, subst, arith}
use Rattle.std.specs.Bool.{Decides}
use Rattle.image_model.specs.Layout.{Layout, layout, Fits}
use Rattle.image_model.specs.Alike.{Alike}
use Rattle.image_model.proofs.Alike.{is_alike_decides}
use Rattle.image_shape.specs.Shape.{shaped}
use Rattle.imgref_c.proofs.Agreeing.{alike_as}
use Rattle.imgref_c.proofs.pairs.equal_images.Goals as goal

pub returns-clause-gives : goal.returns-clause-gives
returns-clause-gives g c =
    let a = c.args in
    let eq = g.T.PartialEq.eq in
    let first = c.shape.ensures in
    let second = c.shape-2.ensures in
    let k : Layout g.row.T.Denot = layout a.cells.now a.claimed.width a.claimed.height a.claimed.stride in
    let l : Layout g.row.T.Denot = layout a.other.now a.claimed_other.width a.claimed_other.height a.claimed_other.stride in
    let m : Layout g.row.T.Denot = shaped a.cells.now c.shape.result in
    let n : Layout g.row.T.Denot = shaped a.other.now c.shape-2.result in
    let is_k : m ≡ k = λ i. layout a.cells.now (first.width i) (first.height i) (first.stride i) in
    let is_l : n ≡ l = λ i. layout a.other.now (second.width i) (second.height i) (second.stride i) in
    let fits_k : Fits k = search rules in
    let fits_l : Fits l = search rules in
    let agrees = alike_as eq k l m n fits_k fits_l is_k is_l in
    let places = subst (λ b. Decides b (Alike eq m n)) (sym c.are_equal_fitting.ensures) (is_alike_decides eq m n) in
    record {
      gives = λ _. (λ told. agrees.0 (places.0 told), λ agree. places.1 (agrees.1 agree));
      unchanged = λ refused. absurd (omega (arith, refused));
    }
