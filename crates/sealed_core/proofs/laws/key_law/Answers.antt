use Rattle.sealed_core.proofs.KeyDigits.{key_digits, key_length, zeros_nobodys}
use Rattle.sealed_core.proofs.laws.key_law.Goals as goal

pub returns-clause-digits : goal.returns-clause-digits
returns-clause-digits c secret id member = key_digits secret id member

pub returns-clause-length : goal.returns-clause-length
returns-clause-length c secret id member = key_length secret id member

pub returns-clause-zeros : goal.returns-clause-zeros
returns-clause-zeros c secret id i = zeros_nobodys secret id i
