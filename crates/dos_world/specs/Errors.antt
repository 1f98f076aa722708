-- The numbers of errors: Linux's, include/uapi/asm-generic/errno-base.h and errno.h. A service that
-- refuses answers minus one of them.
use Rattle.std.specs.Prelude.{ℕ}

-- ESRCH: no such process
abbrev pub esrch : ℕ
esrch = 3

-- EINTR: interrupted by a signal
abbrev pub eintr : ℕ
eintr = 4

-- EBADF: no such descriptor, or none for this use
abbrev pub ebadf : ℕ
ebadf = 9

-- ECHILD: no such child
abbrev pub echild : ℕ
echild = 10

-- EAGAIN: no more for now, or another value than was expected
abbrev pub eagain : ℕ
eagain = 11

-- ENOMEM: too few free frames
abbrev pub enomem : ℕ
enomem = 12

-- EFAULT: an address that the caller may not use so
abbrev pub efault : ℕ
efault = 14

-- EINVAL: an argument out of range
abbrev pub einval : ℕ
einval = 22

-- EMFILE: no free descriptor
abbrev pub emfile : ℕ
emfile = 24

-- EPIPE: a pipe that nobody reads
abbrev pub epipe : ℕ
epipe = 32

-- ENOSYS: no such service
abbrev pub enosys : ℕ
enosys = 38
