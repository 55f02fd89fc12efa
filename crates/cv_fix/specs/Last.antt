-- Rules that look at the last item alone.
use Rattle.std.specs.Prelude.{List, [], None, Result, Ok}
use Rattle.std.specs.Option.{option_map_or}
use Rattle.std.specs.List.{last_or}

-- what f says of the last item; nothing follows where there is none
abbrev pub by_last : {T S : Type 0} → (T → Result (List T) S) → List T → Result (List T) S
by_last f xs = option_map_or f (last_or None xs) (Ok [])
