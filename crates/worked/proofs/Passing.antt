-- Every worked case is as expected.
use Rattle.std.proofs.Common.{◌≡◌, true, refl}
use Rattle.rules.specs.Arbiter.{first_of}
use Rattle.worked.specs.Cases.{cases, passes}

pub all_pass : passes cases ≡ true
unfolding first_of
all_pass = refl
