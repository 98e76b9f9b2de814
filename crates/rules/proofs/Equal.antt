-- Tables and states are equal where their parts are: what the engine's code shows part by part.
use Rattle.std.proofs.Common.{sym, refl, subst, None, [], ◌≡◌, ℕ}
use mathlib.Core.Path.{fun_ext}
use Rattle.rules.specs.Calls.{Machine}
use Rattle.rules.specs.History.{Engine, Reached, new}
use Rattle.rules.specs.Turns.{Tables}

pub same_tables : (t t' : Tables) → ((x : ℕ) → t.variables x ≡ t'.variables x) → ((p : ℕ) → t.place p ≡ t'.place p) →
    ((c : ℕ) → t.channel c ≡ t'.channel c) → ((p : ℕ) → t.ended p ≡ t'.ended p) → t ≡ t'
same_tables t t' v f k e i = record { variables = fun_ext v i; place = fun_ext f i; channel = fun_ext k i; ended = fun_ext e i }

pub same_machine : (m m' : Machine) → m.program ≡ m'.program → m.tables ≡ m'.tables → ((k : ℕ) → m.held k ≡ m'.held k) → m ≡ m'
same_machine m m' p t h i = record { program = p i; tables = t i; held = fun_ext h i }

-- an engine without a program and with an empty queue is new
pub new_reached : (does : Engine) (m : Machine) → m.program ≡ None → ((k : ℕ) → m.held k ≡ 0) → Reached does [] m
new_reached does m p h =
    subst (Reached does []) (sym (same_machine m (record { program = None; tables = m.tables; held = λ k. 0 }) p refl h)) (new m.tables)
