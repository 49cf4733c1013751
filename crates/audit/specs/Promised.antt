-- WHAT THE TOOLCHAIN PROVES OF A CALL'S CODE, said of its quoted promise. proofs/Quoted.antt and proofs/FaceQuoted.antt
-- have this theorem of every call: run in any model of the language, its code `Meets` the contract `promised`. That
-- contract is made of the quotation alone, so what is quoted is what was proved. No claim rests on it: the contracts of
-- src/library.rt and src/exports.rt say the same of a function that only calls.
use seplogic.Ra.Ura.{Ura}
use base.Logic.{emp}
use contract.Monad.{fact}
use denote.Triple.Spec.{Spec, exits}
use types.Logic.{Logic}
use Rattle.audit.specs.Promise.{Promise}

-- Nothing is asked (`emp`); and at each exit the result, and what the parameters hold there, are as the promise says.
abbrev pub promised : (f : Promise) → {M : Type 1} {𝓤 : Ura M} (𝓛 : Logic 𝓤) → Spec 𝓤 f.types.signature
promised f {𝓤 = 𝓤} 𝓛 = λ κs a. record {
  ghost = Unit {0};
  requires = λ g. emp 𝓤;
  ensures = λ g z. exits 𝓛 f.types.signature f.types.kept κs a (λ e. fact 𝓤 (f.Learnt κs a z e));
}
