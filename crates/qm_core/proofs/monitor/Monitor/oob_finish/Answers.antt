use Rattle.std.proofs.Common.{◌≡◌, ◌∷◌, ◌∙◌, ℕ, List, Some, ap, refl, rules, sym}
use Rattle.std.specs.Result.{result_err}
use Rattle.qm_json.specs.Printing.{printed}
use Rattle.qm_core.specs.{Kept.kept_of, Legal.past_of}
use Rattle.qm_core.specs.Next.{FinishOob, closed_refusal, entry_of, full_refusal, is_open_out_of_band}
use Rattle.qm_core.specs.Sessions.{Kept, kept_at, told_out_of_band, while_open}
use Rattle.qm_core.specs.declared.entries.{Entry.TheVariants.OobDone, StepFault.TheVariants.NotOpen}
use Rattle.qm_core.specs.declared.requests.RequestName.{RequestName}
use Rattle.qm_core.proofs.Keeping.{after_entry, is-open, kept-at, last-moment, may-come, next-refused, sessions-changed}
use Rattle.qm_core.proofs.Records.{oob-here, oob-other, open-changed}
use Rattle.qm_core.proofs.monitor.Monitor.oob_finish.Goals as goal

pub returns-in_err-request-clause-next : goal.returns-in_err-request-clause-next
returns-in_err-request-clause-next c other =
    let past = past_of c.args.self.now.journal in
    let full = full_refusal c.args.self.now.limits past (entry_of c.args.self.now.world past (FinishOob c.args.session c.args.number c.args.moment)) in
    next-refused c.args.self.now (FinishOob c.args.session c.args.number c.args.moment) (closed_refusal c.args.session past) (is_open_out_of_band c.args.session c.args.number past) NotOpen full (result_err c.from_residual.result) refl (search rules) (search rules)

pub invariant_of-self-2 : goal.invariant_of-self-2
invariant_of-self-2 c =
    let sound = c.self.invariant in
    let past = past_of c.self.inside.journal.items in
    let ok = rw (← c.self.view_is) at c.in_ok-request.ensures in
    let made = c.in_ok-reply.ensures in
    let placed = (rw (← c.self.view_is) at c.in_ok-bytes.ensures).placed in
    let s = c.args.session in
    let k = c.args.number in
    let plan = c.args.plan in
    let reply = c.in_ok-reply.field-0.reply in
    let line = c.in_ok-reply.field-0.line in
    let last = c.max-moment.result in
    let e = OobDone s k plan reply last in
    let planned = rw (← c.self.view_is) at c.requires.planned in
    let known = ok.«open».known in
    let held : kept_of c.index_mut-place.result.now ≡ kept_at past s = ap kept_of c.index_mut-place.ensures.value ∙ kept-at past s c.self.inside.sessions.items _ sound.legal.ordered sound.sessions known in
    let come = may-come past c.args.moment c.self.inside.last_moment last sound.moment c.max-moment.ensures (search rules) in
    let wire : line ≡ printed reply = made.line ∙ ap printed (sym made.reply) in
    let here : kept_of c.tell_out_of_band.new.place ≡ kept_at (e ∷ past) s =
    c.in_ok-tell_out_of_band.ensures.ok ∙ ap (λ (l : List ℕ). while_open (told_out_of_band l) (kept_of c.index_mut-place.result.now)) wire ∙ ap (λ (k : Kept). while_open (told_out_of_band (printed reply)) k) held
    ∙ open-changed e s past (told_out_of_band (printed reply)) ok.«open».stays ok.«open».stays (oob-here s k plan reply last past sound.legal.ordered (is-open past s ok.«open»)) in
    after_entry c.self.inside _ e c.in_ok-bytes.bytes sound record {
      is_open = is-open past s ok.«open»;
      request = rw ok.opens (ap (λ (q : RequestName). Some q) (rw (ok.named.0, ok.named.1) refl));
      timed = come;
    } record { planned = planned; answer = rw (ok.opens, ← sound.store) made.reply } placed record {
      world = refl;
      limits = refl;
      journal = c.put.ensures;
      sessions = sessions-changed past e s c.self.inside.sessions.items c.tell_out_of_band.new.place sound.legal.ordered sound.sessions known refl here (λ t. oob-other s k t plan reply last past);
      turns = sound.turns;
      open_count = sound.open_count;
      running = record { request = sound.running.request; command = sound.running.command; known = sound.running.known };
      moment = last-moment past last come;
      stopped = sound.stopped;
      store = c.commit.ensures ∙ made.store ∙ rw (made.reply, sound.store) refl;
    }
