-- Two lists of images with the same grids, and the replies of commands over them.
use Rattle.std.specs.Prelude.{◌≡◌, Bool, IsTrue, List}
use Rattle.std.specs.List.{AllZip}
use Rattle.image_model.specs.Grid.{Grid, Agree}
use Rattle.image_commands.specs.declared.commands.Reply.{Reply}
use Rattle.image_commands.specs.declared.commands.Reply.TheVariants.{Pixel}

-- as many grids in both, which agree one by one
abbrev pub GridsAgree : {T : Type 0} → (T → T → Bool) → List (Grid T) → List (Grid T) → Type 0
GridsAgree eq gs hs = AllZip (Agree eq) gs hs

-- the same reply: pixels are compared by their own equality
abbrev pub AlikeReply : {T : Type 0} → (T → T → Bool) → Reply T → Reply T → Type 0
AlikeReply eq (Pixel a) (Pixel b) = IsTrue (eq a b)
AlikeReply eq r q = r ≡ q

-- as many replies in both, the same one by one
abbrev pub RepliesAgree : {T : Type 0} → (T → T → Bool) → List (Reply T) → List (Reply T) → Type 0
RepliesAgree eq rs qs = AllZip (AlikeReply eq) rs qs
