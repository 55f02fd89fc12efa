-- Conditions whose terms have at most 6 fields.
use Rattle.std.specs.Prelude.{Bool, true, ◌&&◌, length, nat_le}
use Rattle.easl_model.specs.{Condition}
use Rattle.easl_model.specs.Conditions.{Conditions, Same, Differ, All, Any, none, ◌▸◌}

abbrev mutual
  pub is_short : Condition → Bool
  is_short (Same left right) = nat_le (length left.fields) 6 && nat_le (length right.fields) 6
  is_short (Differ left right) = nat_le (length left.fields) 6 && nat_le (length right.fields) 6
  is_short (All cs) = are_short cs
  is_short (Any cs) = are_short cs

  pub are_short : Conditions → Bool
  are_short none = true
  are_short (c ▸ cs) = is_short c && are_short cs
