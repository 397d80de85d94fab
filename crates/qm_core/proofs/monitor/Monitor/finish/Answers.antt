use Rattle.std.proofs.Common.{◌≡◌, ◌∷◌, ◌∙◌, ℕ, Bool, true, List, codes, Some, None, ap, arith, refl, rules, subst, sym}
use Rattle.std.specs.Result.{result_err}
use Rattle.qm_json.specs.Printing.{printed}
use Rattle.qm_core.specs.{Kept.kept_of, Legal.past_of}
use Rattle.qm_core.specs.Next.{Finish, entry_of, full_refusal, is_running}
use Rattle.qm_core.specs.Sessions.{Kept, kept_at, told_of, while_open}
use Rattle.qm_core.specs.Standing.{answers, running_of, was_opened}
use Rattle.qm_core.specs.declared.entries.{Entry.TheVariants.Done, StepFault.TheVariants.NotRunning}
use Rattle.qm_core.specs.declared.requests.{RequestName.RequestName}
use Rattle.qm_core.proofs.Keeping.{after_entry, kept-at, last-moment, may-come, next-entry, next-refused, not-refused, sessions-changed, sessions-count}
use Rattle.qm_core.proofs.Pasts.{opened-within, running-opened}
use Rattle.qm_core.proofs.Records.{done-here, done-other}
use Rattle.qm_core.proofs.monitor.Monitor.finish.Goals as goal

pub returns-in_err-request-clause-next : goal.returns-in_err-request-clause-next
returns-in_err-request-clause-next c other =
    let past = past_of c.args.self.now.journal in
    let full = full_refusal c.args.self.now.limits past (entry_of c.args.self.now.world past (Finish c.args.session c.args.number c.args.moment)) in
    next-refused c.args.self.now (Finish c.args.session c.args.number c.args.moment) None (is_running c.args.session c.args.number past) NotRunning full (result_err c.from_residual.result) refl (search rules) (search rules)

pub overflow_sub-session : goal.overflow_sub-session
overflow_sub-session c =
    let past = past_of c.self.inside.journal.items in
    let ok = rw (← c.self.view_is) at c.in_ok-request.ensures in
    let legal = c.self.invariant.legal.ordered in
    let known : was_opened c.args.session past ≡ true = subst (λ (u : ℕ). was_opened u past ≡ true) ok.named.0 (running-opened past c.in_ok-request.request.now legal ok.runs) in
    omega (arith, (opened-within c.args.session past legal known).0)

pub index_mut-place-requires : goal.index_mut-place-requires
index_mut-place-requires c =
    let sound = c.self.invariant in
    let past = past_of c.self.inside.journal.items in
    let ok = rw (← c.self.view_is) at c.in_ok-request.ensures in
    let known : was_opened c.args.session past ≡ true = subst (λ (u : ℕ). was_opened u past ≡ true) ok.named.0 (running-opened past c.in_ok-request.request.now sound.legal.ordered ok.runs) in
    let within = opened-within c.args.session past sound.legal.ordered known in
    omega (arith, within.0, within.1, sessions-count past c.self.inside.sessions.items sound.sessions)

pub invariant_of-self-2 : goal.invariant_of-self-2
invariant_of-self-2 c =
    let sound = c.self.invariant in
    let past = past_of c.self.inside.journal.items in
    let ok = rw (← c.self.view_is) at c.in_ok-request.ensures in
    let made = c.in_ok-reply.ensures in
    let placed = (rw (← c.self.view_is) at c.in_ok-bytes.ensures).placed in
    let world = c.self.inside.world in
    let request = c.in_ok-request.request.now in
    let s = c.args.session in
    let k = c.args.number in
    let plan = c.args.plan in
    let reply = c.in_ok-reply.field-0.reply in
    let line = c.in_ok-reply.field-0.line in
    let opens = c.in_ok-reply.field-0.negotiates in
    let last = c.max-moment.result in
    let e = Done s k plan reply last in
    let planned = rw (← c.self.view_is) at c.requires.planned in
    let known : was_opened s past ≡ true = subst (λ (u : ℕ). was_opened u past ≡ true) ok.named.0 (running-opened past request sound.legal.ordered ok.runs) in
    let held : kept_of c.index_mut-place.result.now ≡ kept_at past s = ap kept_of c.index_mut-place.ensures.value ∙ kept-at past s c.self.inside.sessions.items _ sound.legal.ordered sound.sessions known in
    let come = may-come past c.args.moment c.self.inside.last_moment last sound.moment c.max-moment.ensures (search rules) in
    let wire : line ≡ printed reply = made.line ∙ ap printed (sym made.reply) in
    let mode : opens ≡ answers (codes "qmp_capabilities") (running_of past) reply = rw (ok.runs, made.reply) made.mode in
    let here : kept_of c.tell.new.place ≡ kept_at (e ∷ past) s =
    c.in_ok-tell.ensures.ok ∙ ap (λ (l : List ℕ). while_open (told_of plan opens l) (kept_of c.index_mut-place.result.now)) wire
    ∙ ap (λ (b : Bool). while_open (told_of plan b (printed reply)) (kept_of c.index_mut-place.result.now)) mode
    ∙ ap (λ (x : Kept). while_open (told_of plan (answers (codes "qmp_capabilities") (running_of past) reply) (printed reply)) x) held
    ∙ done-here s k plan reply last past sound.legal.ordered known in
    let stopped : c.in_ok-reply.field-0.stops ≡ answers (codes "quit") (running_of past) reply = rw (ok.runs, made.reply) made.stop in
    after_entry c.self.inside _ e c.in_ok-bytes.bytes sound record {
      running = rw ok.runs (ap (λ (q : RequestName). Some q) (rw (ok.named.0, ok.named.1) refl));
      timed = come;
    } record { planned = planned; answer = rw (ok.runs, ← sound.store) made.reply } placed record {
      world = refl;
      limits = refl;
      journal = c.put.ensures;
      sessions = sessions-changed past e s c.self.inside.sessions.items c.tell.new.place sound.legal.ordered sound.sessions known refl here (λ t. done-other s k t plan reply last past);
      turns = sound.turns;
      open_count = sound.open_count;
      running = record { request = refl; command = refl; known = tt };
      moment = last-moment past last come;
      stopped = rw (stopped, sound.stopped) refl;
      store = c.commit.ensures ∙ made.store ∙ rw (made.reply, sound.store) refl;
    }

pub returns-clause-next : goal.returns-clause-next
returns-clause-next c other =
    let sound = c.self.invariant in
    let past = past_of c.self.inside.journal.items in
    let ok = rw (← c.self.view_is) at c.in_ok-request.ensures in
    let made = c.in_ok-reply.ensures in
    let fault = (rw (← c.self.view_is) at c.in_ok-bytes.ensures).fault in
    let s = c.args.session in
    let k = c.args.number in
    let planned = rw (← c.self.view_is) at c.requires.planned in
    let e = Done s k c.args.plan c.in_ok-reply.field-0.reply c.max-moment.result in
    let is : e ≡ entry_of c.self.inside.world past (Finish s k c.args.moment) = rw (planned, made.reply, sound.store, ok.runs, c.max-moment.ensures, sound.moment) refl in
    let full = full_refusal c.self.inside.limits past (entry_of c.self.inside.world past (Finish s k c.args.moment)) in
    let answer = not-refused (is_running s k past) NotRunning full ok.fault (fault ∙ ap (full_refusal c.self.inside.limits past) is) in
    rw (← c.self.view_is) (next-entry c.self.inside _ (Finish s k c.args.moment) e _ answer is c.put.ensures refl)
