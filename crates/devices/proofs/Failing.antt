-- What a reader gave before it failed.
use Rattle.std.proofs.Common.{ℕ, ◌+◌, ◌<◌, ◌≤◌, List, ◌++◌, Option, length, take, arith, length-take-le, length-append}
use Rattle.std.specs.Io.KnownBytes.{Consumes, Keeps}
use Rattle.std.proofs.KnownBytes.{Consumes-kept, Consumes-trans}
use Rattle.devices.specs.Whole.{GaveFewer}

-- so many bytes were read, and then no more
pub gave_first : (a b c : Option (List ℕ)) (xs : List ℕ) (n size : ℕ) → n ≤ length xs → n < size → Consumes a b (take n xs) → Keeps b c → GaveFewer size a c
gave_first a b c xs n size within short read kept = record {
  bytes = take n xs;
  read = Consumes-kept a b c (take n xs) read kept;
  are = let taken = length-take-le n xs within in omega (arith, taken, short);
}

-- and then a few more
pub gave_more : (a b c : Option (List ℕ)) (xs : List ℕ) (n more size : ℕ) → n ≤ length xs → n + more ≤ size → Consumes a b (take n xs) → GaveFewer more b c → GaveFewer size a c
gave_more a b c xs n more size within fits read gave = record {
  bytes = take n xs ++ gave.bytes;
  read = Consumes-trans a b c (take n xs) gave.bytes read gave.read;
  are = let taken = length-take-le n xs within in omega (arith, taken, gave.are, fits, length-append (take n xs) gave.bytes);
}
