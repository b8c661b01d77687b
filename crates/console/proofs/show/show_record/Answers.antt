-- `console::show::show_record` meets its contract: a readable record is short.
use Rattle.console.proofs.Outlines.{readable_short}
use Rattle.console.proofs.show.show_record.Goals as goal

pub show_root-requires : goal.show_root-requires
show_root-requires g c = readable_short _ _ c.check_record.ensures c.in-Ok.is
