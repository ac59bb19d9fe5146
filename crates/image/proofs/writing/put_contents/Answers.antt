use Rattle.std.proofs.Common.{ap, ◌∙◌}
use Rattle.text.proofs.Puts.{put_same, put_next}
use Rattle.image.specs.Steps.{entry_bytes}
use Rattle.image.proofs.writing.put_contents.Goals as goal

pub returns : goal.returns
returns c =
    put_next (put_same (c.to_bytes.ensures ∙ ap entry_bytes c.of_links.ensures) c.put_word-at.ensures)
    (put_same (c.to_bytes-2.ensures ∙ ap entry_bytes c.of_turns.ensures) c.put_word.ensures)
