-- When two names lead to one file.
use Rattle.std.specs.Prelude.{◌==◌, ◌&&◌, Bool, false, Option, Some}
use Rattle.std.specs.Str.{bytes_eq}
use Rattle.devices.specs.declared.file_ids.FileId.{FileId}

-- one file: of one device, with one inode; or one that isn't there, by its folder and its name
abbrev pub are_one : Option FileId → Option FileId → Bool
are_one (Some a) (Some b) = a.device == b.device && (a.inode == b.inode && bytes_eq a.name.now b.name.now)
are_one _ _ = false
