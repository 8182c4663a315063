-- The form that the program's own value for it means.
use Rattle.sctp_trace.specs.Forms as forms
use Rattle.sctp_trace.specs.declared.form.Form.{Form}
use Rattle.sctp_trace.specs.declared.form.Form.TheVariants.{Run, Packet, Chunks}

-- what is asked for, without the place of its word
abbrev pub form_meaning : Form → forms.Form
form_meaning Run = forms.Run
form_meaning (Packet hex) = forms.Packet hex.now
form_meaning (Chunks hex) = forms.Chunks hex.now
