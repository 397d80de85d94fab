use Rattle.std.proofs.Common.{◌≡◌, ◌≤◌, take, drop}
use Rattle.qapi_load.specs.Loading.{folder_of}
use Rattle.qapi_load.proofs.Folders.{folder_with}
use Rattle.qapi_load.proofs.includes.folder.Given as goal

abbrev pub invariant-loop-i : goal.invariant-loop-i
invariant-loop-i l = (folder_of l.file ≡ folder_with (take l.i l.file) (take l.end l.file) (drop l.i l.file)) × (l.end ≤ l.i)
