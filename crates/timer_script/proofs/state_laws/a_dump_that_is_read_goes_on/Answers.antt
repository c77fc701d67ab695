use Rattle.std.proofs.Common.{◌∙◌, append-nil, sym}
use Rattle.timer_facility.specs.Saved.{saved_of, state_lines}
use Rattle.timer_script.specs.SavedText.{state_text}
use Rattle.timer_script.proofs.StateTextLemmas.{dump_text, spelled_dump, read_lines}
use Rattle.timer_script.proofs.state_laws.a_dump_that_is_read_goes_on.Goals as goal

pub returns : goal.returns
returns c = λ config last limits s after t outs saved sound savable configured r text same.
    let lines = text.only (state_lines (saved_of s)) (record {
      parts = dump_text s after outs r ∙ sym (append-nil (state_text (state_lines (saved_of s))));
      spelled = spelled_dump s sound savable;
    }) in
    c.a_dump_says_how_to_go_on.ensures s t config last saved.saved sound configured (sym (lines ∙ read_lines saved text.whole)) same
