use Rattle.memory_outside.specs.Files.{files_in}
use Rattle.memory_outside.specs.declared.replaying.Torn.TheVariants.{Lost}
use Rattle.memory_outside.proofs.Replayed.{replays_by}
use Rattle.memory_outside.proofs.replaying.replay_next.Goals as goal

pub returns-then-not-is_unsynced-clause-image : goal.returns-then-not-is_unsynced-clause-image
returns-then-not-is_unsynced-clause-image c = replays_by Lost c.args.call.now (files_in c.args.files.now.items) (files_in c.replay.new.files.items) c.in_ok-replay.ensures.exact

pub returns-clause-image : goal.returns-clause-image
returns-clause-image c = replays_by c.next_torn-torn.result.0 c.args.call.now (files_in c.args.files.now.items) (files_in c.replay-2.new.files.items) c.in_ok-replay-2.ensures.exact
