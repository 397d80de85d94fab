use Rattle.std.proofs.Common.{arith, ◌∙◌, take, true, false}
use Rattle.std.proofs.lemmas.Bool.Decides.{nat_tests}
use Rattle.qapi_load.proofs.Folders.{folder_with-begun, folder_with-at}
use Rattle.qapi_load.proofs.includes.folder.Goals as goal
use Rattle.qapi_load.proofs.includes.folder.Goals.{then-byte-eq47, else-byte-eq47}

pub loop-i-init : goal.loop-i-init
loop-i-init c = (folder_with-begun c.args.file.now, omega arith)

pub loop-i-preserved : goal.loop-i-preserved
loop-i-preserved c =
    let text = c.args.file.now in
    let at = folder_with-at text (take c.loop-i.end text) c.loop-i.i in
    elim c.if-byte-eq47.branch [
      | then-byte-eq47 w ↦ (rw w.end-is (c.loop-i.invariant.0 ∙ at true c.loop-i-test.true (grind (arith, nat_tests))), omega arith)
      | else-byte-eq47 w ↦ (rw w.end-is (c.loop-i.invariant.0 ∙ at false c.loop-i-test.true (grind (arith, nat_tests))), omega arith)
    ]
