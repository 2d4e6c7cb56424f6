-- The output of a run: a line for each reply, and then one for each image.
use Rattle.std.specs.Prelude.{ℕ, List, [], ◌∷◌, ◌++◌, if◌then◌else◌, codes}
use Rattle.std.specs.List.{flat_map}
use Rattle.std.specs.Fmt.{decimal}
use Rattle.image_model.specs.Layout.{Layout}
use Rattle.image_commands.specs.declared.commands.Reply.{Reply}
use Rattle.image_commands.specs.declared.commands.Reply.TheVariants.{Pixel, Counted, Truth, Done, Refused}
use Rattle.image_commands.specs.declared.commands.Refusal.TheVariants.{NoImage, WindowOutside, PlaceOutside, SizesDiffer, NoTile}
use Rattle.script_text.specs.Line.{image_text}

-- the line of a reply
abbrev pub reply_text : Reply ℕ → List ℕ
reply_text (Pixel value) = codes "pixel " ++ decimal value
reply_text (Counted number) = codes "count " ++ decimal number
reply_text (Truth truth) = if truth then codes "true" else codes "false"
reply_text Done = codes "done"
reply_text (Refused NoImage) = codes "refused 1"
reply_text (Refused WindowOutside) = codes "refused 2"
reply_text (Refused PlaceOutside) = codes "refused 3"
reply_text (Refused SizesDiffer) = codes "refused 4"
reply_text (Refused NoTile) = codes "refused 5"

-- a line with its line feed
abbrev pub ended_line : List ℕ → List ℕ
ended_line line = line ++ 10 ∷ []

-- a line for each reply
abbrev pub replies_text : List (Reply ℕ) → List ℕ
replies_text replies = flat_map (λ r. ended_line (reply_text r)) replies

-- a line for each image
abbrev pub images_text : List (Layout ℕ) → List ℕ
images_text images = flat_map (λ i. ended_line (image_text i)) images

-- the lines of the replies, and then those of the images
abbrev pub output_text : List (Reply ℕ) → List (Layout ℕ) → List ℕ
output_text replies images = replies_text replies ++ images_text images
