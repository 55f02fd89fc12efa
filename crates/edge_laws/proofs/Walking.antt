-- What is always true follows along each walk, and what follows begins with a fact.
use Rattle.std.proofs.Common.{ℕ, refl, subst, sym}
use Rattle.std.specs.Prelude.{None}
use Rattle.client_facts.specs.Choices.{Choice, IsChoice}
use Rattle.client_facts.specs.Facts.{IsFact}
use Rattle.client_facts.specs.Setting.{Setting, exit_of}
use Rattle.client_facts.specs.declared.fact.Fact.{Fact}
use Rattle.client_facts.specs.declared.fact.Fact.TheVariants.{Always}
use Rattle.client_walks.specs.Walks.{Follows, Walk, begin, call, step}

-- no slot is given a name
abbrev pub none_given : Choice
none_given class number = None

pub none_is_choice : (g : Setting) (p n : ℕ) → IsChoice g p n none_given
none_is_choice g p n = record {
  given = λ class number code is. cc;
  once = λ class one other code is also. cc;
}

pub always_along : (g : Setting) (p n : ℕ) (w : Walk g p n) → Follows g p n w Always Always
always_along g p n (begin q) = (refl, tt)
always_along g p n (step q l m b w is) = (Always, always_along g q l w, refl, tt)
always_along g p n (call q l m k w is inner) = (
  Always,
  always_along g q l w,
  record {
    choice = none_given;
    is_choice = none_is_choice g q l;
    entry = Always;
    exit = Always;
    enters = tt;
    follows = always_along g k.callee (exit_of g k.callee) inner;
    returns = tt;
  },
  tt,
)

pub starts_fact : (g : Setting) (p n : ℕ) (w : Walk g p n) (d e : Fact) → Follows g p n w d e → IsFact g p 0 d
starts_fact g p n (begin q) d e f = subst (IsFact g q 0) (sym f.0) f.1
starts_fact g p n (step q l m b w is) d e f = starts_fact g q l w d f.0 f.1
starts_fact g p n (call q l m k w is inner) d e f = starts_fact g q l w d f.0 f.1
