-- `layout::sound::check_sound` meets its contract.
use mathlib.Core.Path.{sym, ◌∙◌, refl}
use Rattle.layout.specs.Read.{read}
use Rattle.layout.proofs.Sounds.{answer_of}
use Rattle.layout.proofs.Words.{slice_octets}
use Rattle.layout.proofs.sound.check_sound.Goals as goal

pub returns : goal.returns
returns c = answer_of c.args.s.now (read c.args.s.now) _ (slice_octets c.args.s.now c.type_inv.s) refl (sym c.in_ok-check_record.was ∙ c.check_record.ensures) c.is_sound_where_readable.ensures
