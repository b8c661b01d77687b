-- `flight::profile::Profile::names` meets its contract.
use Rattle.layout.proofs.Questions.{profile_names}
use Rattle.flight.proofs.profile.ProfileQuestion.names.Goals as goal

pub returns : goal.returns
returns c = profile_names _ _ _ _ c.is_rising.ensures c.are_named.ensures
