-- `replay_calls` goes on in the text and stays within it.
use Rattle.std.proofs.Common.{◌≤◌, length}
use Rattle.voices.proofs.replay_calls.Given as goal

abbrev pub invariant-loop-made : goal.invariant-loop-made
invariant-loop-made g l = (l.at ≤ l.end) × (l.end ≤ length l.text)
