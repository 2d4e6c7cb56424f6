-- The window of a box or a cover has each pixel of the frame that is in its rectangle or in its margin.
use Rattle.std.proofs.Common.{ℕ, ◌+◌, ◌-◌, ◌<◌, ◌≤◌, Option, Some, None, ◌≡◌, refl, sym, subst, arith}
use Rattle.std.proofs.lemmas.Bool.Decides.{nat_tests}
use Rattle.image_shape.specs.declared.window.Window.{Window}
use Rattle.frame_edits.specs.Covers.{HasMargin, KeepsAround, KeepsExact, KeepsMargin, KeepsMarginBy, cover_count, cover_start, down_to, drawn, drawn_by, fill_in, margin_of, settled, up_to, window_from, window_of}
use Rattle.image_commands.specs.declared.changes.Change.{Change}
use Rattle.image_commands.specs.declared.changes.Change.TheVariants.{Fill, Mosaic, Mean, Blur, Move, Flip}
use Rattle.frame_edits.specs.declared.covers.Unit.{Unit as Samples}
use Rattle.frame_edits.specs.declared.paint.Paint.{Paint}
use Rattle.frame_edits.specs.declared.paint.Paint.TheVariants.{Grey, Black, Colour, Around}
use Rattle.frame_edits.specs.declared.words.Edit.{Edit}
use Rattle.frame_edits.specs.declared.words.Scope.{Scope}
use Rattle.frame_edits.specs.declared.words.Scope.TheVariants.{Exact, Boxed}

first_near : (step from x : ℕ) → from ≤ x → down_to step from ≤ x
first_near step from x h = omega (arith, h)

end_near : (step end x : ℕ) → x < end → x < up_to step end
end_near step end x h = grind (arith, nat_tests)

pub near_side : (step margin before pixels start count x : ℕ) → x < pixels → start ≤ x + before + margin → x + before < start + count + margin
    → (cover_start step margin before pixels start ≤ x) × (x < cover_start step margin before pixels start + cover_count step margin before pixels start count)
near_side step margin before pixels start count x inside after ahead =
    let first = first_near step (start - (margin + before)) x (omega (arith, after)) in
    let end = end_near step (start + count + margin - before) x (omega (arith, ahead)) in
    (grind (arith, nat_tests), grind (arith, nat_tests))

pub has_margin : (before : ℕ) (s : Samples) (margin : Option ℕ) (width height : ℕ) (box : Window) → HasMargin before s margin width height box (window_from before s margin width height box)
has_margin before s margin width height box x y wide high across down =
    (near_side s.across (margin_of margin s.across) before width box.left box.width x wide across.0 across.1, near_side s.down (margin_of margin s.down) before height box.top box.height y high down.0 down.1)

keeps_around : (s : Samples) (width height : ℕ) (old : Window) (paint : Paint) → KeepsAround s width height old paint (window_of (fill_in s width height old paint))
keeps_around s width height old (Around (Some value) margin) = has_margin 0 s margin width height old
keeps_around s width height old (Around None margin) = has_margin 0 s margin width height old
keeps_around s width height old (Grey value) = refl
keeps_around s width height old Black = refl
keeps_around s width height old (Colour red green blue) = refl

keeps_exact : (s : Samples) (width height : ℕ) (change : Change Paint) → KeepsExact s width height change (window_of (settled s width height change))
keeps_exact s width height (Fill old paint) = keeps_around s width height old paint
keeps_exact s width height (Mosaic w tile_width tile_height) = refl
keeps_exact s width height (Mean w tile_width tile_height bytes) = refl
keeps_exact s width height (Blur w across down bytes) = refl
keeps_exact s width height (Move w left top) = refl
keeps_exact s width height (Flip axes) = refl

keeps_by : (scope : Scope) (s : Samples) (width height : ℕ) (change : Change Paint) → KeepsMarginBy scope s width height change (drawn_by scope s width height change)
keeps_by Exact s width height change = keeps_exact s width height change
keeps_by (Boxed margin) s width height change = has_margin 4294967296 s margin width height (window_of change)

pub keeps : (s : Samples) (width height : ℕ) (e : Edit) (w : Window) → w ≡ drawn s width height e → KeepsMargin s width height e w
keeps s width height e w is = subst (KeepsMargin s width height e) (sym is) (keeps_by e.scope s width height e.change)
