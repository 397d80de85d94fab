use Rattle.std.proofs.Common.{◌≡◌}
use Rattle.std.specs.Vec.Iter.{into_iter_len}
use Rattle.qapi_load.specs.{Loading.after_expressions, Steps.Read, Steps.SameFiles, Steps.left_in}
use Rattle.qapi_load.proofs.open_file.OpenFile.read_on.Given as goal

abbrev pub invariant-loop-expr : goal.invariant-loop-expr
invariant-loop-expr l = record {
  rest : (read : Read) → after_expressions read l.fn.self.name l.fn.reading (left_in l.fn.self) ≡ after_expressions read l.self.name l.reading (left_in l.self);
  files : SameFiles l.fn.reading l.reading;
  name : l.self.name ≡ l.fn.self.name;
}

abbrev pub decreases-loop-expr : goal.decreases-loop-expr
decreases-loop-expr l = into_iter_len l.self.rest
