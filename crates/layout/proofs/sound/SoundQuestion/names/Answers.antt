-- `layout::sound::Sound::names` meets its contract.
use Rattle.layout.proofs.Questions.{sound_names}
use Rattle.layout.proofs.sound.SoundQuestion.names.Goals as goal

pub returns : goal.returns
returns c = sound_names _ _ c.is_rising.ensures
