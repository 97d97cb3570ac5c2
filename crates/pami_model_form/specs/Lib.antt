pub mod ModelForm
pub mod Named
