use Rattle.client_print.proofs.Whole as whole
use Rattle.client_print.proofs.laws.clients_are_read_again.Goals as goal

pub returns : goal.returns
returns c = whole.clients_are_read_again
