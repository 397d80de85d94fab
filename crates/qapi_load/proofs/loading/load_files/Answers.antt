use Rattle.std.proofs.Common.{rules, refl, sym, ap, [], ◌∷◌, ◌++◌, Ok}
use Rattle.qapi_load.specs.declared.reading.Reading.{Reading}
use Rattle.qapi_load.proofs.Given.{answers, over_more, over_so}
use Rattle.qapi_load.proofs.loading.load_files.Goals as goal

pub returns-in_err-loading-clause-given : goal.returns-in_err-loading-clause-given
returns-in_err-loading-clause-given g c =
    answers (g.L.Library.files c.args.library.now) (c.args.main.now ∷ []) c.args.main.now c.from_residual.result
    (over_so refl c.in_err-loading.ensures.given (λ files here answer. search rules))

pub loop-sources-init : goal.loop-sources-init
loop-sources-init g c = record {
  sound = search rules;
  given = over_so (sym (ap (λ (r : Reading). r.begun) c.in_ok-loading.ensures.begun)) c.in_ok-loading.ensures.given (λ files here. let found = here tt in search rules);
  same = search rules;
  kept = search rules;
  kept_name = search rules;
}

pub returns-in_err-sources-clause-given : goal.returns-in_err-sources-clause-given
returns-in_err-sources-clause-given g c =
    answers (g.L.Library.files c.args.library.now) c.loop-sources.loading.reading.begun c.args.main.now c.from_residual-in_err-sources.result
    (over_so refl c.loop-sources.invariant.given (λ files here answer. search rules))

pub returns-in-Done-clause-given : goal.returns-in-Done-clause-given
returns-in-Done-clause-given g c =
    answers (g.L.Library.files c.args.library.now) c.loop-sources.loading.reading.begun c.args.main.now (Ok c.in-Done.sources)
    (over_so refl c.loop-sources.invariant.given (λ files here answer. search rules))

pub loop-sources-preserved-in-On : goal.loop-sources-preserved-in-On
loop-sources-preserved-in-On g c = record {
  sound = search rules;
  given = over_so (search rules) c.loop-sources.invariant.given (λ files here. search rules);
  same = search rules;
  kept = search rules;
  kept_name = search rules;
}

pub returns-in_err-loading-in-Ask-clause-given : goal.returns-in_err-loading-in-Ask-clause-given
returns-in_err-loading-in-Ask-clause-given g c =
    let begun = c.loop-sources.loading.reading.begun in
    let name = c.in-Ask.wanted.name in
    answers (g.L.Library.files c.args.library.now) (begun ++ name ∷ []) c.args.main.now c.from_residual-in_err-loading-in-Ask.result
    (over_more begun name (begun ++ name ∷ []) refl (search rules) c.loop-sources.invariant.same c.loop-sources.invariant.given
    c.in_err-loading-in-Ask.ensures.given (λ files here found answer. search rules))

pub loop-sources-preserved : goal.loop-sources-preserved
loop-sources-preserved g c =
    let next = c.in_ok-loading-in-Ask in
    let begins = ap (λ (r : Reading). r.begun) next.ensures.begun in
    record {
      sound = search rules;
      given = over_more c.loop-sources.loading.reading.begun c.in-Ask.wanted.name next.loading.reading.begun (search rules) (search rules)
          c.loop-sources.invariant.same c.loop-sources.invariant.given next.ensures.given (λ files here found. let reads = found tt in search rules);
      same = search rules;
      kept = search rules;
      kept_name = search rules;
    }
