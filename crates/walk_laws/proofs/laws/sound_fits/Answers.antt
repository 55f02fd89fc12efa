use Rattle.walk_laws.proofs.Sound.{sound_fits}
use Rattle.walk_laws.proofs.laws.sound_fits.Goals as goal

pub returns : goal.returns
returns c = sound_fits
