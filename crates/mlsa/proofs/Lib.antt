mod MlsaLaws
mod LaidLaws
mod LayoutLaws
