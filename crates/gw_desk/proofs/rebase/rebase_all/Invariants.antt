use Rattle.std.proofs.Common.{◌≡◌, ◌≤◌, ◌<◌, ℕ, length, get_or}
use Rattle.gw_meaning.specs.Listing.{Listing}
use Rattle.gw_meaning.specs.declared.edit.Edit.{Edit}
use Rattle.gw_touch.specs.Touching.{touching_of}
use Rattle.gw_desk.specs.declared.recording.Recording.{Recording}
use Rattle.gw_desk.specs.Rebasing.{IsRebasedRecording}
use Rattle.gw_desk.proofs.rebase.rebase_all.Given as goal

abbrev pub invariant-loop-recording : goal.invariant-loop-recording
invariant-loop-recording l = record {
  count : length l.recording-items ≡ length l.fn.runs.items;
  done : (e : Edit) (u : Listing) → l.touch ≡ touching_of l.old e u → (k : ℕ) (d : Recording) → k < l.recording-index →
      IsRebasedRecording l.old e u (get_or l.fn.runs.items k d) (get_or l.recording-items k d);
  rest : (k : ℕ) (d : Recording) → l.recording-index ≤ k → get_or l.recording-items k d ≡ get_or l.fn.runs.items k d;
}
