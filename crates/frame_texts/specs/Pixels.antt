-- What the bytes of a pixel are.
use Rattle.std.specs.Prelude.{ℕ, ◌*◌, false, nat_lt, if◌then◌else◌}
use Rattle.frame_texts.specs.Pam.{tuple, tuple_depth}
use Rattle.frame_texts.specs.declared.pixel.Pixel.{Pixel}

-- a sample of a video: the low byte comes first where it has two
abbrev pub video_pixel : ℕ → Pixel
video_pixel greatest = record { tuples = tuple false false; greatest = greatest; high_first = false }

-- how many bytes a pixel has: one for each sample, or two where a value may be above 255
abbrev pub pixel_size : Pixel → ℕ
pixel_size p = if nat_lt p.greatest 256 then tuple_depth p.tuples else 2 * tuple_depth p.tuples
