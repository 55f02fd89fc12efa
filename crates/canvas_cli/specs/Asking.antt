-- What the code tells of the words.
use Rattle.canvas_cli.specs.Commands.{Request}
use Rattle.canvas_cli.specs.Commands as told
use Rattle.canvas_cli.specs.declared.command.Asked.{Asked}
use Rattle.canvas_cli.specs.declared.command.Asked.TheVariants.{One, Pair}

abbrev pub request_of : Asked → Request
request_of (One o) = told.One o.single o.spec.now
request_of (Pair p) = told.Pair p.command p.spec.now p.client.now
