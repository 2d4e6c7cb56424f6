use Rattle.std.proofs.Common.{◌+◌, take, drop, length-set, refl, ◌∙◌, arith, ◌≡◌, ◌-◌, map, ap}
use Rattle.std.specs.Simd.Lanes.{mask_l, chunk}
use lib.Count.{count_trailing_zeros}
use Rattle.std.proofs.lemmas.List.{take_rest, take_more_set}
use Rattle.texts.specs.Parts.{parts_of}
use Rattle.texts.specs.Reading.{pixel_of}
use Rattle.texts.proofs.FieldsEach.{with_nothing, each_of-more}
use Rattle.texts.specs.Digits.{is_other}
use Rattle.texts.proofs.ShortPixels.{end_within, digits_from, later_mask, first_pixel}
use Rattle.texts.proofs.pixels.first_pixels.Goals as goal

pub loop-ends-init : goal.loop-ends-init
loop-ends-init g c = record {
  ends = let all : g.row.N ≡ g.row.N - 0 = omega arith in c.others-ends.ensures ∙ ap (λ n. mask_l (map is_other (chunk 0 n c.args.bytes.now))) all;
  at = omega arith;
  count = omega arith;
  len = refl;
  read = with_nothing _;
}

pub bounds-bytes-at : goal.bounds-bytes-at
bounds-bytes-at g c =
    let l = c.loop-ends in
    omega (arith, end_within g.row.N l.at l.ends c.args.bytes.now c.requires.few l.invariant.at c.requires.long (omega arith) l.invariant.ends)

pub short_pixel-requires-clause-digits : goal.short_pixel-requires-clause-digits
short_pixel-requires-clause-digits g c =
    let l = c.loop-ends in
    rw take_rest (digits_from g.row.N l.at l.ends c.args.bytes.now c.requires.few l.invariant.at c.requires.long (omega arith) l.invariant.ends c.type_inv.bytes)

pub loop-ends-preserved : goal.loop-ends-preserved
loop-ends-preserved g c =
    let l = c.loop-ends in
    let bytes = c.args.bytes.now in
    let sep = c.args.separator in
    let n = count_trailing_zeros 64 l.ends in
    let within = end_within g.row.N l.at l.ends bytes c.requires.few l.invariant.at c.requires.long (omega arith) l.invariant.ends in
    let digits = digits_from g.row.N l.at l.ends bytes c.requires.few l.invariant.at c.requires.long (omega arith) l.invariant.ends c.type_inv.bytes in
    let room = c.requires.room in
    let pixel = rw (take_rest bytes l.at) at c.in-Some.ensures.pixel in
    let first = first_pixel sep l.at n c.in-Some.value bytes c.requires.separator (omega arith) digits c.if-bytes-at.false pixel in
    record {
      ends = later_mask g.row.N is_other l.at n l.ends bytes l.invariant.ends;
      at = omega (arith, c.in-Some.ensures.some);
      count = omega (arith, c.in-Some.ensures.some);
      len = length-set l.values l.count c.in-Some.value ∙ l.invariant.len;
      read = rw (take_more_set l.values l.count c.in-Some.value (omega (arith, l.invariant.len)))
          (each_of-more pixel_of (take l.count l.values) (parts_of sep (drop l.at bytes)) (parts_of sep (drop (l.at + (n + 1)) bytes)) c.in-Some.value _ first l.invariant.read);
    }
