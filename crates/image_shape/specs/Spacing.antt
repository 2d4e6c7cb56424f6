-- Where the rows that are left of an image are in a list of cells, and where rows at either end are split off.
use Rattle.std.specs.Prelude.{ℕ, ◌+◌, ◌-◌, ◌*◌}
use Rattle.image_model.specs.Rows.{row_count}
use Rattle.image_shape.specs.declared.ends.End.{End}
use Rattle.image_shape.specs.declared.ends.End.TheVariants.{First, Last}
use Rattle.image_shape.specs.declared.spacing.Spacing.{Spacing}

-- the rows of a whole image
abbrev pub whole_spacing : ℕ → ℕ → ℕ → Spacing
whole_spacing width height stride = record { skip = 0; count = row_count width height; width = width; stride = stride }

-- how many cells so many rows have, from the first pixel of the first to the last pixel of the last
abbrev pub span : ℕ → Spacing → ℕ
span rows s = s.stride * (rows - 1) + s.width

-- without so many rows at that end; the padding after first rows is skipped
abbrev pub without : End → ℕ → Spacing → Spacing
without First rows s = record s { skip = s.stride - s.width; count = s.count - rows }
without Last rows s = record s { count = s.count - rows }

-- the rows at that end are split off after the first ones, or before the last ones
abbrev pub outer_cut : End → ℕ → Spacing → ℕ
outer_cut First rows s = s.skip + span rows s
outer_cut Last rows s = s.skip + (s.count - rows) * s.stride

-- and in what is split off, where they begin or end
abbrev pub inner_cut : End → ℕ → Spacing → ℕ
inner_cut First rows s = s.skip
inner_cut Last rows s = span rows s
