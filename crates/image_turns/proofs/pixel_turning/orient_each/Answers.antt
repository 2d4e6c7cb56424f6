-- Each orientation has a call of its own.
use Rattle.image_turns.proofs.pixel_turning.orient_each.Goals as goal

pub returns-in-Transposed : goal.returns-in-Transposed
returns-in-Transposed g c = rw c.in-Transposed.is c.orient_strips.ensures

pub returns-in-Right : goal.returns-in-Right
returns-in-Right g c = rw c.in-Right.is c.orient_strips-in-Right.ensures

pub returns-in-Half : goal.returns-in-Half
returns-in-Half g c = rw c.in-Half.is c.orient_strips-in-Half.ensures

pub returns-in-Left : goal.returns-in-Left
returns-in-Left g c = rw c.in-Left.is c.orient_strips-in-Left.ensures
