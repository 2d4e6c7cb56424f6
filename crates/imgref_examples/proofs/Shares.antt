-- A part of 255 is at most 255.
use Rattle.std.proofs.Common.{ℕ, ◌*◌, ◌/◌, ◌≤◌, max, arith}
use Rattle.std.proofs.Math.Nat.{div-le_of_le-mul, le-max_left}

pub share_small : (part whole : ℕ) → part ≤ whole → 255 * part / max whole 1 ≤ 255
share_small part whole within = div-le_of_le-mul (max whole 1) (omega (arith, within, le-max_left whole 1))
