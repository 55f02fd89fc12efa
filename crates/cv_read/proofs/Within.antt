-- Readers that read a language which closes what it opens, and go too deep only where too many brackets stand: how
-- they compose.
use Rattle.std.proofs.Common.{ℕ, suc, Bool, List, [], ◌++◌, arith}
use Rattle.easl_model.specs.{IsListed}
use Rattle.easl_model.specs.declared.token.Kind.{Kind}
use Rattle.easl_model.specs.declared.token.Kind.TheVariants as kind
use Rattle.easl_model.specs.declared.token.Mark.{Mark}
use Rattle.easl_model.specs.declared.token.Mark.TheVariants as mark
use Rattle.easl_model.specs.declared.token.Token.{Token}
use Rattle.cv_read.specs.{Got, before_mark, behind_mark, choose, is_mark, items_at, listed_at, nothing_of, parens_at, step_at, take_at, ◌>>=◌}
use Rattle.cv_read.specs.Read.{Read}
use Rattle.cv_read.proofs.Depth.{Even, Bounded, bounded_both, bounded_choose, bounded_take, bounded_got, bounded_bracket, bounded_items}
use Rattle.cv_read.proofs.Laws.{Lang, Is, either, Avoids, Front, Sub, Apart, Reads, Then, Mapped, One, Or, End, both, one, mapped, empty, respell, choice}
use Rattle.cv_read.proofs.Levels.{Flat, Opens, Closes, Falls, falls_one, falls_mapped, falls_then, even_from, even_end, even_one, even_mapped, even_then, even_or, even_led, even_closed, even_star, even_listed, even_opened, even_parens, begin_opens, end_closes, falls_closed, bounded_mapped, bounded_led, bounded_closed, bounded_parens, bounded_listed}
use Rattle.cv_read.proofs.Repeats.{Star, ListGoes, listed_law, repeated}
use Rattle.cv_read.proofs.Words.{Led, Closed, Parens, led, closed, parens, two_ways, or_nothing}

pub record ReadsWithin {A : Type 0} (r : List Token → Read A) (S : Lang A) (G : Kind → Bool) (d : ℕ) : Type 0 where
  pub reads : Reads r S G
  pub even : Even S
  pub bound : Bounded r d

-- this in braces
abbrev pub Braces : {A : Type 0} → Lang A → Lang A
Braces S = Led (is_mark mark.Begin) nothing_of (λ _. Closed mark.End S)

pub take_within : {A : Type 0} (p : Kind → Bool) (value : Token → A) (G : Kind → Bool) (d : ℕ) (k : Kind) → Is (p k) → Flat p
    → ReadsWithin (take_at p value) (One p value) G d
take_within p value G d k is flat = record {
  reads = one p value G k is;
  even = even_one p value flat;
  bound = bounded_take p value d;
}

pub got_within : {A : Type 0} (x : A) (G : Kind → Bool) (d : ℕ) → ReadsWithin (λ us. Got x us) (End x) G d
got_within x G d = record { reads = empty x G; even = even_end x; bound = bounded_got x d }

module _ {A : Type 0} {r : List Token → Read A} {S : Lang A} {G : Kind → Bool} {d : ℕ} where
  pub shallower : ReadsWithin r S G (suc d) → ReadsWithin r S G d
  shallower within = record {
    reads = within.reads;
    even = within.even;
    bound = λ ts b most e h m s. within.bound ts b most e h (omega arith) s;
  }

  pub mapped_within : {B : Type 0} (g : A → B) → ReadsWithin r S G d → ReadsWithin (λ ts. r ts >>= λ x us. Got (g x) us) (Mapped S g) G d
  mapped_within g within = record {
    reads = mapped r g S G within.reads;
    even = even_mapped S g within.even;
    bound = bounded_mapped r g d within.bound;
  }

  pub respell_within : {T : Lang A} → ((w : List Token) (x : A) → S w x → T w x) → ((w : List Token) (x : A) → T w x → S w x) → ReadsWithin r S G d
      → ReadsWithin r T G d
  respell_within {T = T} to from within = record {
    reads = respell r S T G to from within.reads;
    even = even_from S T from within.even;
    bound = within.bound;
  }

  pub both_within : {B : Type 0} {f : A → List Token → Read B} {T : A → Lang B} {H : Kind → Bool} → ReadsWithin r S G d
      → ((x : A) → ReadsWithin (f x) (T x) H d) → ((x : A) (w k : List Token) (z : B) → T x w z → Avoids H k → Avoids G (w ++ k))
      → ReadsWithin (λ ts. r ts >>= f) (Then S T) H d
  both_within {f = f} {T = T} {H = H} first second follow = record {
    reads = both r f S T G H first.reads (λ x. (second x).reads) follow;
    even = even_then S T first.even (λ x. (second x).even);
    bound = bounded_both r f S G d first.reads first.even first.bound (λ x. (second x).bound);
  }

  pub closed_within : (m : Mark) (H : Kind → Bool) → Flat (is_mark m) → (Is (G (kind.Mark m)) → ⊥) → ReadsWithin r S G d
      → ReadsWithin (before_mark m r) (Closed m S) H d
  closed_within m H flat stops within = record {
    reads = closed m r S G H within.reads stops;
    even = even_closed m S flat within.even;
    bound = bounded_closed m r S G d within.reads within.even within.bound;
  }

  pub parens_within : (H : Kind → Bool) → (Is (G (kind.Mark mark.Close)) → ⊥) → ReadsWithin r S G d → ReadsWithin (parens_at r) (Parens S) H (suc d)
  parens_within H stops within = record {
    reads = parens r S G H within.reads stops;
    even = even_parens S within.even;
    bound = bounded_parens r S G d within.reads within.even within.bound;
  }

  pub braces_within : (H : Kind → Bool) → (Is (G (kind.Mark mark.End)) → ⊥) → ReadsWithin r S G d
      → ReadsWithin (behind_mark mark.Begin (before_mark mark.End r)) (Braces S) H (suc d)
  braces_within H stops within = record {
    reads = led (is_mark mark.Begin) nothing_of (kind.Mark mark.Begin) tt (λ _ us. before_mark mark.End r us) (λ _. Closed mark.End S) H (λ _. closed mark.End r S G H within.reads stops);
    even = even_opened (is_mark mark.Begin) nothing_of (λ _. Closed mark.End S) begin_opens (λ _. falls_closed mark.End S end_closes within.even);
    bound = bounded_bracket (is_mark mark.Begin) nothing_of (λ _ us. before_mark mark.End r us) d begin_opens (λ _. bounded_closed mark.End r S G d within.reads within.even within.bound);
  }

  pub listed_within : (p : Kind → Bool) → ((w : List Token) (x : A) → S w x → Front p w) → Apart (is_mark mark.Comma) G → ReadsWithin r S G d
      → ReadsWithin (listed_at p r) (IsListed S) (ListGoes G p) d
  listed_within p starts apart within = record {
    reads = listed_law p r S G within.reads starts apart;
    even = even_listed S within.even;
    bound = bounded_listed p r S G within.reads starts apart d within.even within.bound;
  }

  pub repeated_within : (p : Kind → Bool) → ((w : List Token) (x : A) → S w x → Front p w) → Apart p G → ReadsWithin r S G d
      → ReadsWithin (items_at (step_at p r)) (Star S) (either G p) d
  repeated_within p starts apart within = record {
    reads = repeated p r S G within.reads starts apart;
    even = even_star S within.even;
    bound = bounded_items p r S G within.reads starts apart within.even d within.bound;
  }

  pub two_ways_within : {s : List Token → Read A} {T : Lang A} (p q : Kind → Bool) → ((w : List Token) (x : A) → S w x → Front p w)
      → ((w : List Token) (x : A) → T w x → Front q w) → Apart q p → ReadsWithin r S G d → ReadsWithin s T G d
      → ReadsWithin (choose p r s) (Or S T) G d
  two_ways_within {s = s} {T = T} p q first second apart one two = record {
    reads = two_ways p q r s S T G one.reads two.reads first second apart;
    even = even_or S T one.even two.even;
    bound = bounded_choose p r s d one.bound two.bound;
  }

  -- the second way may be nothing where the first is taken greedily
  pub choice_within : {s : List Token → Read A} {T : Lang A} (p : Kind → Bool) → ((w : List Token) (x : A) → S w x → Front p w)
      → ((w : List Token) (x : A) → T w x → Avoids p w) → ((x : A) → T [] x → Sub p G) → ReadsWithin r S G d → ReadsWithin s T G d
      → ReadsWithin (choose p r s) (Or S T) G d
  choice_within {s = s} {T = T} p first avoids ends one two = record {
    reads = choice p r s S T G one.reads two.reads first avoids ends;
    even = even_or S T one.even two.even;
    bound = bounded_choose p r s d one.bound two.bound;
  }

  pub or_nothing_within : (p : Kind → Bool) (x : A) → ((w : List Token) (y : A) → S w y → Front p w) → Sub p G → ReadsWithin r S G d
      → ReadsWithin (choose p r (λ us. Got x us)) (Or S (End x)) G d
  or_nothing_within p x first sub within = record {
    reads = or_nothing p r x S G within.reads first sub;
    even = even_or S (End x) within.even (even_end x);
    bound = bounded_choose p r (λ us. Got x us) d within.bound (bounded_got x d);
  }

-- the same of a language that closes one bracket more
pub record ClosesWithin {A : Type 0} (r : List Token → Read A) (S : Lang A) (G : Kind → Bool) (d : ℕ) : Type 0 where
  pub reads : Reads r S G
  pub falls : Falls S
  pub bound : Bounded r d

pub take_closes : {A : Type 0} (p : Kind → Bool) (value : Token → A) (G : Kind → Bool) (d : ℕ) (k : Kind) → Is (p k) → Closes p
    → ClosesWithin (take_at p value) (One p value) G d
take_closes p value G d k is closes = record {
  reads = one p value G k is;
  falls = falls_one p value closes;
  bound = bounded_take p value d;
}

pub mapped_closes : {A B : Type 0} {r : List Token → Read A} {S : Lang A} {G : Kind → Bool} {d : ℕ} (g : A → B) → ClosesWithin r S G d
    → ClosesWithin (λ ts. r ts >>= λ x us. Got (g x) us) (Mapped S g) G d
mapped_closes {r = r} {S = S} {G = G} {d = d} g within = record {
  reads = mapped r g S G within.reads;
  falls = falls_mapped S g within.falls;
  bound = bounded_mapped r g d within.bound;
}

pub both_closes : {A B : Type 0} {r : List Token → Read A} {f : A → List Token → Read B} {S : Lang A} {T : A → Lang B} {G H : Kind → Bool} {d : ℕ}
    → ReadsWithin r S G d → ((x : A) → ClosesWithin (f x) (T x) H d) → ((x : A) (w k : List Token) (z : B) → T x w z → Avoids H k → Avoids G (w ++ k))
    → ClosesWithin (λ ts. r ts >>= f) (Then S T) H d
both_closes {r = r} {f = f} {S = S} {T = T} {G = G} {H = H} {d = d} first second follow = record {
  reads = both r f S T G H first.reads (λ x. (second x).reads) follow;
  falls = falls_then S T first.even (λ x. (second x).falls);
  bound = bounded_both r f S G d first.reads first.even first.bound (λ x. (second x).bound);
}

module _ {A B : Type 0} {r : A → List Token → Read B} {S : A → Lang B} {G : Kind → Bool} {d : ℕ} (p : Kind → Bool) (value : Token → A) (k : Kind) (is : Is (p k)) where
  -- behind a token that is no bracket, and behind an opening one
  pub led_within : Flat p → ((x : A) → ReadsWithin (r x) (S x) G d) → ReadsWithin (λ ts. take_at p value ts >>= r) (Led p value S) G d
  led_within flat within = record {
    reads = led p value k is r S G (λ x. (within x).reads);
    even = even_led p value S flat (λ x. (within x).even);
    bound = bounded_led p value k is flat r d (λ x. (within x).bound);
  }

  pub opened_within : Opens p → ((x : A) → ClosesWithin (r x) (S x) G d) → ReadsWithin (λ ts. take_at p value ts >>= r) (Led p value S) G (suc d)
  opened_within opens within = record {
    reads = led p value k is r S G (λ x. (within x).reads);
    even = even_opened p value S opens (λ x. (within x).falls);
    bound = bounded_bracket p value r d opens (λ x. (within x).bound);
  }
