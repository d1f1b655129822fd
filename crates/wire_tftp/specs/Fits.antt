-- Which option acknowledgment answers what was asked for (RFC 2347, section 3; RFC 2348).
use Rattle.std.specs.Prelude.{ℕ, ◌&&◌, Bool, true, false, not, nat_le, Option, Some, None, is_some}
use Rattle.wire_tftp.specs.declared.options.Opts.{Opts}

-- a block size from 8 up to the one asked for
abbrev pub fits_size : Option ℕ → Option ℕ → Bool
fits_size asked None = true
fits_size None (Some given) = false
fits_size (Some asked) (Some given) = nat_le 8 given && nat_le given asked

-- a size of the file, where one was asked for
abbrev pub fits_total : Option ℕ → Option ℕ → Bool
fits_total asked None = true
fits_total asked (Some given) = is_some asked

-- no option that wasn't asked for, and a block size within the one asked for
abbrev pub fits_ask : Opts → Opts → Bool
fits_ask asked given = not given.other && (fits_size asked.blksize given.blksize && fits_total asked.tsize given.tsize)
