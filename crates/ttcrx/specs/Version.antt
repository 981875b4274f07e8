-- The version of the C interface, TTCRX_VERSION of include/ttcrx.h.
use Rattle.std.specs.Prelude.{ℕ}

-- raised by each change of a struct or of a meaning
abbrev pub interface_version : ℕ
interface_version = 4
