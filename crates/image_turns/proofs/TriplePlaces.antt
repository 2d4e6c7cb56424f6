-- Pixels of three cells that change places with those at the same distance from the other end.
use Rattle.std.proofs.Common.{◌≡◌, ℕ, min, ◌+◌, ◌-◌, ◌*◌, ◌%◌, ◌<◌, ◌≤◌, ◌⊎◌, List, length, take, drop, sym, subst, ap, ◌∙◌, arith}
use Rattle.std.specs.List.{slice_get}
use Rattle.std.proofs.lemmas.Bool.Decides.{nat_tests}
use Rattle.image_model.specs.Windows.{with_stretch}
use Rattle.image_model.proofs.Stretches.{length-with_stretch}
use Rattle.image_writes.specs.Gathered.{AreGathered, from_end}
use Rattle.image_writes.proofs.Gathering.{GatheredTo}
use Rattle.image_turns.specs.Triples.{triple_back, mirrored_triple}
use Rattle.image_turns.proofs.Crossing.{HasStretch, gathered_stretch, each_written}

-- a block has its own cells
pub triple_in : (n k : ℕ) → n % 3 ≡ 0 → k < n → triple_back n k < n
triple_in n k whole below = omega (arith, whole, below)

-- a block that was read from a stretch, with its pixels in the opposite order
pub triple_read : {T : Type 0} {old part turned block : List T} (start many n : ℕ) → many ≡ n → n % 3 ≡ 0 → part ≡ take many (drop start old) → length turned ≡ n → AreGathered (triple_back n) part turned → block ≡ turned → HasStretch (triple_back n) old start n block
triple_read {old = old} {turned = turned} start many n is_many whole read long so is =
    subst (HasStretch (triple_back n) old start n) (sym is) (gathered_stretch start many n is_many long (λ j. triple_in n j whole) (subst (λ cells. AreGathered (triple_back n) cells turned) read so))

triple_here : (n from upto k : ℕ) → from ≤ from_end n k → from_end n k < upto → mirrored_triple n from upto k ≡ triple_back n k
triple_here n from upto k above below = grind (arith, nat_tests)

-- cell j of the last pixels comes from the first ones
pub triple_front : (n done many last j : ℕ) → n % 3 ≡ 0 → done % 3 ≡ 0 → many % 3 ≡ 0 → last ≡ n - done - many → 2 * done + many ≤ n → j < many → done + triple_back many j ≡ mirrored_triple n done (done + many) (last + j)
triple_front n done many last j n_whole done_whole many_whole is_last inside below =
    let from : done + triple_back many j ≡ triple_back n (last + j) = omega (arith, n_whole, done_whole, many_whole, is_last, inside, below) in
    from ∙ sym (triple_here n done (done + many) (last + j) (omega (arith, is_last, inside, below)) (omega (arith, is_last, inside, below)))

-- and cell j of the first ones from the last ones
pub triple_rear : (n done many last j : ℕ) → n % 3 ≡ 0 → done % 3 ≡ 0 → many % 3 ≡ 0 → last ≡ n - done - many → 2 * done + many ≤ n → j < many → last + triple_back many j ≡ mirrored_triple n done (done + many) (done + j)
triple_rear n done many last j n_whole done_whole many_whole is_last inside below =
    let from : last + triple_back many j ≡ triple_back n (done + j) = omega (arith, n_whole, done_whole, many_whole, is_last, inside, below) in
    from ∙ sym (triple_here n done (done + many) (done + j) (omega (arith, is_last, inside, below)) (omega (arith, is_last, inside, below)))

pub triple_stays : (n done many last k : ℕ) → last ≡ n - done - many → 2 * done + many ≤ n → k < n → (k < done) ⊎ (done + many ≤ k) → (k < last) ⊎ (last + many ≤ k) → mirrored_triple n done (done + many) k ≡ k
triple_stays n done many last k is_last inside here first second = grind (arith, nat_tests)

pub triple_within : (n from upto k : ℕ) → n % 3 ≡ 0 → k < n → mirrored_triple n from upto k < n
triple_within n from upto k whole below = grind (arith, nat_tests, whole)

pub triple_twice : (n from middle upto k : ℕ) → n % 3 ≡ 0 → from % 3 ≡ 0 → middle % 3 ≡ 0 → upto % 3 ≡ 0 → from ≤ middle → middle ≤ upto → k < n
    → mirrored_triple n from middle (mirrored_triple n middle upto k) ≡ mirrored_triple n from upto k
triple_twice n from middle upto k n_whole from_whole middle_whole upto_whole first second below = grind (arith, nat_tests, n_whole, from_whole, middle_whole, upto_whole)

-- all pixels have changed places
pub triple_all : (n k : ℕ) → k < n → mirrored_triple n 0 n k ≡ triple_back n k
triple_all n k below = grind (arith, nat_tests)

-- two blocks that reach each other are all that is left
pub triple_rest : (n done more k : ℕ) → n ≤ 2 * (done + more) → k < n → mirrored_triple n done (done + more) k ≡ mirrored_triple n done n k
triple_rest n done more k reached below = grind (arith, nat_tests)

-- the pixel in the middle stays
pub triple_none : (n done k : ℕ) → n % 3 ≡ 0 → done % 3 ≡ 0 → n < 2 * done + 6 → k < n → mirrored_triple n done n k ≡ k
triple_none n done k n_whole done_whole few below = grind (arith, nat_tests, n_whole, done_whole)

-- one block more of pixels that come from a source; the last one may begin before those so far end
pub triple_block : {T : Type 0} (source old now block : List T) (n done next at : ℕ) → length old ≡ n → n % 3 ≡ 0 → done % 3 ≡ 0 → 48 ≤ n → next ≡ done + 48 → at ≡ min done (n - 48) → HasStretch (triple_back 48) source (n - 48 - at) 48 block
    → GatheredTo (triple_back n) source old now (min done n) → GatheredTo (triple_back n) source old (with_stretch now (record { start = at; len = 48 }) block) (min next n)
triple_block source old now block n done next at many whole done_whole room is_next is_at has so =
    let within : at + 48 ≤ length now = omega (arith, so.as_many, many, is_at, room) in
    record {
      as_many = length-with_stretch now (record { start = at; len = 48 }) block within has.many ∙ so.as_many;
      each = λ k below.
          each_written (λ k p. p ≡ slice_get source (triple_back n k)) now block at 48 within has.many
          (λ j few. has.each j few ∙ ap (slice_get source) (let from : n - 48 - at + triple_back 48 j ≡ triple_back n (at + j) = omega (arith, few, whole, done_whole, is_at, room) in from))
          k (λ beside. so.each k (omega (arith, beside, below, is_next, is_at, room)));
    }
