-- What the code's kinds stand for in the rules of clients.
use Rattle.client_values.specs.declared.kind.Kind.{Kind}
use Rattle.client_values.specs.declared.kind.Kind.TheVariants as kind
use Rattle.client_model.specs.Settings as told

abbrev pub kind_told : Kind → told.Kind
kind_told (kind.Object class) = told.Object class
kind_told kind.Opaque = told.Opaque
kind_told kind.Void = told.Void
kind_told kind.Unknown = told.Unknown
