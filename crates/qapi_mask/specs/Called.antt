-- Commands and events as the code holds them. This serves private functions.
use Rattle.qapi_mask.specs.Calls.{Call, Command, Event}
use Rattle.qapi_mask.specs.declared.calls.Called.{Called}
use Rattle.qapi_mask.specs.declared.calls.Called.TheVariants as held

abbrev pub told : Called → Call
told (held.Command command) = Command command.now
told (held.Event event) = Event event.now
