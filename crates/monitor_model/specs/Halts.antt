-- The numbers with which the monitor halts the machine.
use Rattle.std.specs.Prelude.{ℕ}

-- the program is at its end
abbrev pub halt_end : ℕ
halt_end = 0

-- the SVC has no number of the monitor's
abbrev pub halt_number : ℕ
halt_number = 1

-- the SVC of a call does not stand at a site; the site has no target with the entry that is asked for
abbrev pub halt_site : ℕ
halt_site = 2

abbrev pub halt_target : ℕ
halt_target = 3

-- the frame does not lie in the open stack, or has a pad; the stack has no whole eighth left for a callee
abbrev pub halt_stack : ℕ
halt_stack = 4

abbrev pub halt_limit : ℕ
halt_limit = 5

-- a loan may not be made, or there is none that the running function made
abbrev pub halt_loan : ℕ
halt_loan = 6

-- a store, and a load, that is refused and that no loan allows; any other fault
abbrev pub halt_store : ℕ
halt_store = 7

abbrev pub halt_fault : ℕ
halt_fault = 8

abbrev pub halt_load : ℕ
halt_load = 9

-- the protection unit has another number of regions than the tables are for, or there is none
abbrev pub halt_unit : ℕ
halt_unit = 10
