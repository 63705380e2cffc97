-- The companion models of one time step of length h: current = conductance × voltage + offset. Assumes nothing.
--
-- conductance    R: 1 / value; L: h / value; C: value / h; a source: zero
-- offset         R: zero; L: the old current; C: the negative of conductance × old voltage
-- feed           what a branch feeds its cuts besides: the offset of R, L, C; the value of a current source
use Rattle.std.specs.Prelude.{Some, None, Option}
use Rattle.arithmetic.specs.Ops.{Ops}
use Rattle.sheet.specs.declared.kind.Kind.{Kind}
use Rattle.sheet.specs.declared.kind.Kind.TheVariants.{Resistor, Inductor, Capacitor, VoltageSource, CurrentSource}
use Rattle.sheet.specs.declared.row.Row.{Row}

abbrev pub conductance : {M : Type 0} → Ops M → M → Option Kind → Row M → M
conductance o h None r = o.nought
conductance o h (Some Resistor) r = o.div o.one r.value
conductance o h (Some Inductor) r = o.div h r.value
conductance o h (Some Capacitor) r = o.div r.value h
conductance o h (Some VoltageSource) r = o.nought
conductance o h (Some CurrentSource) r = o.nought

abbrev pub offset : {M : Type 0} → Ops M → M → Option Kind → Row M → M
offset o h None r = o.nought
offset o h (Some Resistor) r = o.nought
offset o h (Some Inductor) r = r.current
offset o h (Some Capacitor) r = o.neg (o.mul (o.div r.value h) r.voltage)
offset o h (Some VoltageSource) r = o.nought
offset o h (Some CurrentSource) r = o.nought

abbrev pub feed : {M : Type 0} → Ops M → M → Option Kind → Row M → M
feed o h None r = o.nought
feed o h (Some Resistor) r = offset o h (Some Resistor) r
feed o h (Some Inductor) r = offset o h (Some Inductor) r
feed o h (Some Capacitor) r = offset o h (Some Capacitor) r
feed o h (Some VoltageSource) r = o.nought
feed o h (Some CurrentSource) r = r.value
