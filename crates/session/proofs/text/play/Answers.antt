use Rattle.session.proofs.Texting.{stopped-from, played-from}
use Rattle.session.proofs.text.play.Goals as goal

pub returns-in_ok-play_setup-in-Ok : goal.returns-in_ok-play_setup-in-Ok
returns-in_ok-play_setup-in-Ok c =
    played-from c.args.text.now c.over-reader.result.text.now c.setup.new.self.text.now c.over-reader.result.at c.setup.new.self.at c.in-Ok.setup c.in_ok-play_setup-in-Ok.field-0
    c.over-reader.ensures.0 c.in-Ok.ensures.text c.over-reader.ensures.1 c.in-Ok.ensures.settled.0 c.in-Ok.ensures.settled.1 c.in_ok-play_setup-in-Ok.ensures

pub returns-in-Err : goal.returns-in-Err
returns-in-Err c =
    stopped-from c.args.text.now c.over-reader.result.text.now c.setup.new.self.text.now c.over-reader.result.at c.in-Err.fault c.stop_at.result
    c.over-reader.ensures.0 c.in-Err.ensures.text c.over-reader.ensures.1 c.in-Err.ensures.settled c.stop_at.ensures
