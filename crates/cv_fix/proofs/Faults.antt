-- What is said of a fault follows from what is said of it elsewhere.
use Rattle.std.proofs.Common.{ℕ}
use Rattle.cv_fix.specs.declared.known.AddFault.{AddFault}
use Rattle.cv_fix.specs.declared.known.AddFault.TheVariants as add
use Rattle.cv_fix.specs.declared.closure.CloseFault.{CloseFault}
use Rattle.cv_fix.specs.declared.closure.CloseFault.TheVariants as close
use Rattle.cv_fix.specs.Faults.{AtFull, AtStop, AtOver}

pub AtFull-weaker : {P Q : Type 0} (f : AddFault) → (P → Q) → AtFull f P → AtFull f Q
AtFull-weaker add.Full so p = so p
AtFull-weaker add.Memory so p = tt

module _ {S : Type 0} where
  pub AtStop-weaker : (f : CloseFault S) (P Q : S → Type 0) → ((stop : S) → P stop → Q stop) → AtStop f P → AtStop f Q
  AtStop-weaker (close.Stop stop) P Q so p = so stop p
  AtStop-weaker (close.Over at) P Q so p = tt
  AtStop-weaker close.Memory P Q so p = tt

  pub AtOver-weaker : (f : CloseFault S) (P Q : ℕ → Type 0) → ((at : ℕ) → P at → Q at) → AtOver f P → AtOver f Q
  AtOver-weaker (close.Stop stop) P Q so p = tt
  AtOver-weaker (close.Over at) P Q so p = so at p
  AtOver-weaker close.Memory P Q so p = tt
