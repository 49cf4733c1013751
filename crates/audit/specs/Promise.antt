-- What a public call's promise is, and what it is for exactly one answer to meet it: the result, and what each lent
-- `&mut` slice holds afterwards.
use Rattle.std.specs.Prelude.{◌≡◌}
use contract.Lifetimes.{Lfts}
use denote.Triple.Entry.{Args, Res}
use denote.Triple.Clauses.{Ended, Lasts, AtExit, at_exit}

-- A promise: the types of a function's parameters and of its result, which Rattle generates of its source, and what its
-- `ensures` says of the result and of the parameters at exit. Nothing is asked of the arguments: src/library.rt and
-- src/exports.rt have a function for each call that asks nothing, only calls it, and promises that the end is as the
-- promise says (`Says`).
pub record Promise : Type 2 where
  pub types : Ended
  pub Learnt : (κs : Lfts types.signature.lifetimes) → Args types.signature κs → Res types.signature κs
      → AtExit types κs → Type 0

module _ (f : Promise) where
  -- where the slices live, the arguments, and the result
  abbrev pub Regions : Type 0
  Regions = Lfts f.types.signature.lifetimes

  abbrev pub Given : Regions → Type 0
  Given κs = Args f.types.signature κs

  abbrev pub Result : Regions → Type 0
  Result κs = Res f.types.signature κs

  -- how a call could end: its result, and for each parameter the last value behind it (a list for a `&mut` slice,
  -- nothing for what no call can change)
  pub record End (κs : Regions) (a : Given κs) : Type 0 where
    pub result : Result κs
    pub last : Lasts f.types κs a

  -- what the promise says of a call with the arguments a that ends so
  abbrev pub Says : (κs : Regions) (a : Given κs) → End κs a → Type 0
  Says κs a e = f.Learnt κs a e.result (at_exit f.types κs a e.last)

  -- an end meets the promise, and no other does
  pub record ExactlyOne (κs : Regions) (a : Given κs) : Type 0 where
    pub the : End κs a
    pub said : Says κs a the
    pub only : (e : End κs a) → Says κs a e → e ≡ the

  -- ONE ANSWER: whatever a call's arguments, exactly one end meets the promise
  abbrev pub OneAnswer : Type 0
  OneAnswer = (κs : Regions) (a : Given κs) → ExactlyOne κs a
