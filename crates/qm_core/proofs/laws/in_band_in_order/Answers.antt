use Rattle.qm_core.proofs.JournalLaws.{started, answered, overtaken, in-band, out-of-band}
use Rattle.qm_core.proofs.laws.in_band_in_order.Goals as goal

pub returns-clause-started : goal.returns-clause-started
returns-clause-started c = started

pub returns-clause-answered : goal.returns-clause-answered
returns-clause-answered c = answered

pub returns-clause-overtaken : goal.returns-clause-overtaken
returns-clause-overtaken c = overtaken

pub returns-clause-in_band : goal.returns-clause-in_band
returns-clause-in_band c = in-band

pub returns-clause-out_of_band : goal.returns-clause-out_of_band
returns-clause-out_of_band c = out-of-band
