-- Verdicts as the code holds them. This serves private functions.
use Rattle.qm_core.specs.Verdicts.{Refusal, Verdict, Malformed, NotAnObject, UnexpectedMember, TwoVerbs, NoVerb, VerbNoString, ArgumentsNoObject, NegotiationExpected, NegotiationComplete, UnknownCommand, NotOutOfBand, Misfit, Refused, Run}
use Rattle.qm_core.specs.declared.verdicts.{Refusal.Refusal as HeldRefusal, Verdict.Verdict as HeldVerdict}
use Rattle.qm_core.specs.declared.verdicts.Refusal.TheVariants as held
use Rattle.qm_core.specs.declared.verdicts.Verdict.TheVariants as held_verdict

abbrev pub told : HeldRefusal → Refusal
told (held.BadInput bad) = Malformed bad
told held.NotAnObject = NotAnObject
told (held.UnexpectedMember name) = UnexpectedMember name.now
told held.TwoVerbs = TwoVerbs
told held.NoVerb = NoVerb
told (held.VerbNoString name) = VerbNoString name.now
told held.ArgumentsNoObject = ArgumentsNoObject
told held.NegotiationExpected = NegotiationExpected
told held.NegotiationComplete = NegotiationComplete
told (held.UnknownCommand name) = UnknownCommand name.now
told (held.NotOutOfBand name) = NotOutOfBand name.now
told (held.Misfit fault path) = Misfit fault path

abbrev pub told_verdict : HeldVerdict → Verdict
told_verdict (held_verdict.Refused refusal) = Refused (told refusal)
told_verdict (held_verdict.Run command) = Run command
