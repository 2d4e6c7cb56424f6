-- Lists that grow at their end begin with what they were.
use Rattle.std.proofs.Common.{◌≡◌, ◌≤◌, ◌++◌, ℕ, List, length, drop, sym, ap, ◌∙◌, arith}
use Rattle.std.specs.Io.{StartsWith}
use Rattle.std.proofs.Math.Seq.{take-length}
use Rattle.std.proofs.lemmas.List.{take-append-le, length-take, take-append-drop}

-- a list begins with itself
pub starts_itself : (xs : List ℕ) → StartsWith xs xs
starts_itself xs = take-length xs

-- it is as long as what it begins with, at least
pub starts_within : (xs old : List ℕ) → StartsWith xs old → length old ≤ length xs
starts_within xs old is = let len = sym (length-take (length old) xs) ∙ ap length is in omega (arith, len)

-- more at the end changes nothing of that
pub starts_more : (xs old more : List ℕ) → StartsWith xs old → StartsWith (xs ++ more) old
starts_more xs old more is = take-append-le (length old) xs more (starts_within xs old is) ∙ is

-- what a list begins with may begin with another one
pub starts_before : (xs mid old : List ℕ) → StartsWith xs mid → StartsWith mid old → StartsWith xs old
starts_before xs mid old is before =
    let rest = drop (length mid) xs in
    let whole : xs ≡ mid ++ rest = sym (take-append-drop (length mid) xs) ∙ ap (λ l. l ++ rest) is in
    rw whole (starts_more mid old rest before)

pub ruleset beginnings = (starts_itself, starts_more, starts_before)
